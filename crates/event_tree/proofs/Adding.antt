-- A tree with one node more.
use Rattle.std.specs.Prelude.{◌≡◌, refl, ℕ, zero, suc, ◌<◌, ◌≤◌, ◌⊎◌, ◌==◌, cond, Option, None, Some, List, [], ◌∷◌, ◌++◌, length}
use Rattle.std.proofs.Common.{sym, ap, ◌∙◌, subst, arith, inl, inr, length-append}
use Rattle.std.proofs.lemmas.List.{get_or_append_left, get_or_at, map-append, length-map}
use Rattle.event_tree.specs.Lists.{HasNode, list_of, Grows, Keeps}
use Rattle.event_tree.specs.Nodes.{newest, linked_top, list_at, lists_of, parents_of, IsAt, new_id, new_node, with_child, IsNode, AreNodes, IsSound, IsChild, HasNoChild}
use Rattle.event_tree.specs.declared.node.NodeId.{NodeId}
use Rattle.event_tree.specs.declared.node.Node.{Node}
use Rattle.event_tree.proofs.Linking.{WasNode, lists-linked, parents-linked, length-linked, was-linked}
use Rattle.event_tree.proofs.Listing.{parent-at, node-at, length-lists_of, root-list, grown-push}
use Rattle.event_tree.proofs.Newest.{newest-more, newest-end, newest-none}

module _ {E : Type 0} where
  -- ---- lists that end in an event

  not-empty : (xs : List E) (x : E) → [] ≡ xs ++ x ∷ [] → ⊥
  not-empty xs x e = (let l : 0 ≡ length (xs ++ x ∷ []) = ap length e in omega (arith, l, length-append xs (x ∷ [])))

  same-ends : (xs ys : List E) (x y : E) → xs ++ x ∷ [] ≡ ys ++ y ∷ [] → (xs ≡ ys) × (x ≡ y)
  same-ends [] [] x y e = (refl, cc)
  same-ends [] (b ∷ ys) x y e = absurd (not-empty ys y (let t : [] ≡ ys ++ y ∷ [] = cc in t))
  same-ends (a ∷ xs) [] x y e = absurd (not-empty xs x (let t : [] ≡ xs ++ x ∷ [] = cc in t))
  same-ends (a ∷ xs) (b ∷ ys) x y e =
      let t : xs ++ x ∷ [] ≡ ys ++ y ∷ [] = cc in
      let h : a ≡ b = cc in
      let rest = same-ends xs ys x y t in
      (ap (λ c. c ∷ xs) h ∙ ap (λ zs. b ∷ zs) rest.0, rest.1)

  -- the list with one event more
  abbrev pub longer : List (Node E) → NodeId → E → List E
  longer nodes parent event = list_at (lists_of nodes) parent.index ++ event ∷ []

  -- no list is that of a child that is not there
  fresh : (top : Option NodeId) (nodes : List (Node E)) (parent : NodeId) (event : E) → IsSound top nodes → parent.index ≤ length nodes
      → HasNoChild nodes parent.index event → (i : ℕ) → i ≤ length nodes → list_at (lists_of nodes) i ≡ longer nodes parent event → ⊥
  fresh top nodes parent event sound inside none zero le e = not-empty (list_at (lists_of nodes) parent.index) event (sym (root-list nodes) ∙ e)
  fresh top nodes parent event sound inside none (suc place) le e =
      let there = node-at nodes place (omega arith) in
      let node = there.0 in
      let is = sound.are_nodes place node there.1 in
      let ends = same-ends (list_at (lists_of nodes) node.parent.index) (list_at (lists_of nodes) parent.index) node.event event (sym is.list ∙ e) in
      none place node there.1 (sound.apart node.parent.index parent.index (let a = is.earlier in omega arith) inside ends.0) ends.1

  push-is : (nodes : List (Node E)) (new : Node E) (place : ℕ) (node : Node E) → IsAt (nodes ++ new ∷ []) place node
      → IsAt nodes place node ⊎ ((place ≡ length nodes) × (node ≡ new))
  push-is [] new zero node at = inr (refl, at.1)
  push-is [] new (suc place) node at = absurd (let lt = at.0 in omega arith)
  push-is (other ∷ nodes) new zero node at = inl (omega arith, at.1)
  push-is (other ∷ nodes) new (suc place) node at = next (push-is nodes new place node (let lt = at.0 in omega arith, at.1))
    where
      next : IsAt nodes place node ⊎ ((place ≡ length nodes) × (node ≡ new)) → IsAt (other ∷ nodes) (suc place) node ⊎ ((suc place ≡ length (other ∷ nodes)) × (node ≡ new))
      next (inl here) = inl (let lt = here.0 in omega arith, here.1)
      next (inr last) = inr (ap suc last.0, last.1)

  -- ---- one more node

  module _ (nodes : List (Node E)) (parent : NodeId) (event : E) where
    abbrev pushed : List (Node E)
    pushed = nodes ++ new_node nodes parent event ∷ []

    abbrev new_lists : List (List E)
    new_lists = lists_of nodes ++ longer nodes parent event ∷ []

    abbrev new_parents : List ℕ
    new_parents = parents_of nodes ++ parent.index ∷ []

    -- a node of which the new one is the newest child where it is the parent
    abbrev relinked : ℕ → Node E → Node E
    relinked place node = record node { newest_child = cond (parent.index == suc place) (Some (new_id nodes)) node.newest_child }

    pub lists-with_child : lists_of (with_child nodes parent event) ≡ new_lists
    lists-with_child = lists-linked pushed parent.index (new_id nodes) ∙ grown-push ([] ∷ []) nodes (new_node nodes parent event)

    parents-with_child : parents_of (with_child nodes parent event) ≡ new_parents
    parents-with_child =
        parents-linked pushed parent.index (new_id nodes) ∙ map-append (λ (n : Node E). n.parent.index) nodes (new_node nodes parent event ∷ [])

    length-with_child : length (with_child nodes parent event) ≡ suc (length nodes)
    length-with_child = length-linked pushed parent.index (new_id nodes) ∙ length-append nodes (new_node nodes parent event ∷ []) ∙ omega arith

    length-parents : length (parents_of nodes) ≡ length nodes
    length-parents = length-map nodes (λ (n : Node E). n.parent.index)

    old-list : (i : ℕ) → i ≤ length nodes → list_at new_lists i ≡ list_at (lists_of nodes) i
    old-list i le = get_or_append_left (lists_of nodes) (longer nodes parent event ∷ []) [] i (let l = length-lists_of nodes in omega arith)

    new-list : list_at new_lists (suc (length nodes)) ≡ longer nodes parent event
    new-list = get_or_at (lists_of nodes) (longer nodes parent event) [] [] (suc (length nodes)) (length-lists_of nodes)

    old-node : (place : ℕ) (node : Node E) → place < length nodes → IsNode (lists_of nodes) (parents_of nodes) (length nodes) place node
        → IsNode new_lists new_parents (suc (length nodes)) place (relinked place node)
    old-node place node lt is = record {
      earlier = is.earlier;
      child = ap (cond (parent.index == suc place) (Some (new_id nodes))) is.child
          ∙ sym (newest-end (parents_of nodes) parent.index (suc place) (length nodes) (sym length-parents));
      sibling = is.sibling ∙ sym (newest-more (parents_of nodes) parent.index node.parent.index place (let l = length-parents in omega arith));
      list = old-list (suc place) (omega arith) ∙ is.list
          ∙ ap (λ list. list ++ node.event ∷ []) (sym (old-list node.parent.index (let a = is.earlier in omega arith)));
    }

    -- a node that is made has no child
    childless : AreNodes nodes → newest (parents_of nodes) (suc (length nodes)) (length nodes) ≡ None
    childless are = newest-none (parents_of nodes) (suc (length nodes)) (length nodes) (λ place lt e.
        let there = node-at nodes place lt in
        let a = (are place there.0 there.1).earlier in
        let p = parent-at nodes place there.0 there.1 in
        omega arith)

    node-made : AreNodes nodes → parent.index ≤ length nodes
        → IsNode new_lists new_parents (suc (length nodes)) (length nodes) (relinked (length nodes) (new_node nodes parent event))
    node-made are inside = record {
      earlier = inside;
      child = ap (cond (parent.index == suc (length nodes)) (Some (new_id nodes))) (sym (childless are))
          ∙ sym (newest-end (parents_of nodes) parent.index (suc (length nodes)) (length nodes) (sym length-parents));
      sibling = sym (newest-more (parents_of nodes) parent.index parent.index (length nodes) (let l = length-parents in omega arith));
      list = new-list ∙ ap (λ list. list ++ event ∷ []) (sym (old-list parent.index inside));
    }

    each-node : AreNodes nodes → parent.index ≤ length nodes → (place : ℕ) (node : Node E) → WasNode pushed parent.index (new_id nodes) place node
        → IsNode new_lists new_parents (suc (length nodes)) place node
    each-node are inside place node w =
        subst (IsNode new_lists new_parents (suc (length nodes)) place) (sym w.is) (by (push-is nodes (new_node nodes parent event) place w.was w.at))
      where
        by : IsAt nodes place w.was ⊎ ((place ≡ length nodes) × (w.was ≡ new_node nodes parent event))
            → IsNode new_lists new_parents (suc (length nodes)) place (relinked place w.was)
        by (inl at) = old-node place w.was at.0 (are place w.was at)
        by (inr last) =
            subst (λ k. IsNode new_lists new_parents (suc (length nodes)) k (relinked k w.was)) (sym last.0)
            (subst (λ n. IsNode new_lists new_parents (suc (length nodes)) (length nodes) (relinked (length nodes) n)) (sym last.1) (node-made are inside))

    before-or-last : (i : ℕ) → i ≤ suc (length nodes) → (i ≤ length nodes) ⊎ (i ≡ suc (length nodes))
    before-or-last i le = grind arith

    -- the new list is none of the old ones, so all are different again
    apart-again : (top : Option NodeId) → IsSound top nodes → parent.index ≤ length nodes → HasNoChild nodes parent.index event
        → (i j : ℕ) → (i ≤ length nodes) ⊎ (i ≡ suc (length nodes)) → (j ≤ length nodes) ⊎ (j ≡ suc (length nodes))
        → list_at new_lists i ≡ list_at new_lists j → i ≡ j
    apart-again top sound inside none i j (inl a) (inl b) e = sound.apart i j a b (sym (old-list i a) ∙ e ∙ old-list j b)
    apart-again top sound inside none i j (inl a) (inr b) e =
        absurd (fresh top nodes parent event sound inside none i a (sym (old-list i a) ∙ e ∙ ap (list_at new_lists) b ∙ new-list))
    apart-again top sound inside none i j (inr a) (inl b) e =
        absurd (fresh top nodes parent event sound inside none j b (sym (old-list j b) ∙ sym e ∙ ap (list_at new_lists) a ∙ new-list))
    apart-again top sound inside none i j (inr a) (inr b) e = a ∙ sym b

    pub sound-with_child : (top : Option NodeId) → IsSound top nodes → parent.index ≤ length nodes → HasNoChild nodes parent.index event
        → IsSound (linked_top top parent.index (new_id nodes)) (with_child nodes parent event)
    sound-with_child top sound inside none = record {
      top_is = ap (cond (parent.index == 0) (Some (new_id nodes))) sound.top_is
          ∙ sym (newest-end (parents_of nodes) parent.index 0 (length nodes) (sym length-parents))
          ∙ ap (λ parents. newest parents 0 (suc (length nodes))) (sym parents-with_child)
          ∙ ap (newest (parents_of (with_child nodes parent event)) 0) (sym length-with_child);
      are_nodes = λ place node at.
          subst (λ lists. IsNode lists (parents_of (with_child nodes parent event)) (length (with_child nodes parent event)) place node) (sym lists-with_child)
          (subst (λ parents. IsNode new_lists parents (length (with_child nodes parent event)) place node) (sym parents-with_child)
          (subst (λ count. IsNode new_lists new_parents count place node) (sym length-with_child)
          (each-node sound.are_nodes inside place node (was-linked pushed parent.index (new_id nodes) place node at))));
      apart = λ i j a b e. apart-again top sound inside none i j
          (before-or-last i (subst (λ n. i ≤ n) length-with_child a)) (before-or-last j (subst (λ n. j ≤ n) length-with_child b))
          (ap (λ lists. list_at lists i) (sym lists-with_child) ∙ e ∙ ap (λ lists. list_at lists j) lists-with_child);
    }

    pub has-new_id : HasNode (lists_of (with_child nodes parent event)) (new_id nodes)
    has-new_id = omega (arith, length-lists_of (with_child nodes parent event), length-with_child)

    pub list-new_id : list_of (lists_of (with_child nodes parent event)) (new_id nodes) ≡ longer nodes parent event
    list-new_id = ap (λ lists. list_at lists (suc (length nodes))) lists-with_child ∙ new-list

    pub list-of-child : (id : NodeId) → AreNodes nodes → IsChild nodes parent.index event id → list_of (lists_of nodes) id ≡ longer nodes parent event
    list-of-child id are found =
        ap (list_at (lists_of nodes)) found.number ∙ (are found.place found.node found.at).list
        ∙ ap (λ p. list_at (lists_of nodes) p ++ found.node.event ∷ []) found.parent_is ∙ ap (λ e. list_at (lists_of nodes) parent.index ++ e ∷ []) found.same

    pub has-child : (id : NodeId) → IsChild nodes parent.index event id → HasNode (lists_of nodes) id
    has-child id found = (let lt = found.at.0 in omega (arith, found.number, length-lists_of nodes))

  -- lists that grow are kept
  pub keeps-grown : (old : List (List E)) (list : List E) (new : List (List E)) → Grows old list new → Keeps old new
  keeps-grown old list new (inl same) = subst (Keeps old) (sym same) (λ id has. (has, refl))
  keeps-grown old list new (inr more) =
      subst (Keeps old) (sym more) (λ id has. (omega (arith, length-append old (list ∷ [])), get_or_append_left old (list ∷ []) [] id.index has))
