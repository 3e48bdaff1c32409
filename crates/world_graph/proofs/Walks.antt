-- A walk goes on.
use Rattle.std.specs.Prelude.{◌≡◌, refl, ℕ, suc, ◌+◌, ◌<◌, ◌≤◌, true, false, List, [], ◌∷◌, ◌++◌, Some, None, slice_get, length, map, reverse, drop}
use Rattle.std.proofs.Common.{sym, ap, subst, ◌∙◌, arith, inl, inr}
use Rattle.std.proofs.lemmas.Bool.{cases_lt}
use Rattle.std.proofs.Math.ListN.{get_or-eq_default}
use Rattle.std.proofs.lemmas.Option.{slice_get_within}
use Rattle.std.proofs.lemmas.List.{reverse-append, append-nil, length_push}
use Rattle.path_counts.specs.Paths.{Has}
use Rattle.path_counts.specs.declared.Edge.{Edge}
use Rattle.world_graph.specs.Worlds.{Rules, GoesOn, IsGraph, Runs, behind, LeadsBack}
use Rattle.world_graph.specs.Walking.{state_at, IsPut, IsBook, IsChain, IsWalk, IsWalked, IsEmitted, IsEntered, IsFinished}
use Rattle.world_graph.specs.declared.walk.State.{State}
use Rattle.world_graph.specs.declared.walk.State.TheVariants.{Fresh, Open, Done}
use Rattle.world_graph.specs.declared.walk.Frame.{Frame}
use Rattle.world_graph.specs.declared.walk.Walk.{Walk}
use Rattle.world_graph.proofs.Books.{seen-later, seen-longer, book-later, book-passed, book-emitted, book-entered, book-finished, done-not-fresh, same-world}

reverse-last : (fs : List Frame) (f : Frame) → reverse (fs ++ f ∷ []) ≡ f ∷ reverse fs
reverse-last fs f = reverse-append fs (f ∷ [])

none-left : (fs : List Frame) → length fs ≡ 0 → fs ≡ []
none-left [] h = refl
none-left (f ∷ fs) h = absurd (omega arith)

fresh-not-open : Fresh ≡ Open → ⊥
fresh-not-open h = cc

fresh-not-done : Fresh ≡ Done → ⊥
fresh-not-done h = cc

-- a mark more, and an open node more, leave what is below them
pub bottom-entered : {World : Type 0} (ps qs : List Frame) (f : Frame) (v w : World) (ms ws : List World) → qs ≡ ps ++ f ∷ [] → ms ≡ w ∷ ws → drop (length qs) (v ∷ ms) ≡ drop (length ps) (w ∷ ws)
bottom-entered ps qs f v w ms ws e m =
    let long : length qs ≡ suc (length ps) = let l = ap length e ∙ length_push ps f in omega arith in
    ap (λ n. drop n (v ∷ ms)) long ∙ ap (drop (length ps)) m

-- where no node is open but the first, nothing is below
pub bottom-started : {World : Type 0} (ps : List Frame) (v w : World) (ms ws : List World) → ps ≡ [] → v ≡ w → ms ≡ ws → drop (length ps) (v ∷ ms) ≡ w ∷ ws
bottom-started ps v w ms ws e s m = ap (λ fs. drop (length fs) (v ∷ ms)) e ∙ ap (λ x. x ∷ ms) s ∙ ap (λ xs. w ∷ xs) m

known-within : (states : List State) (n : ℕ) → (state_at states n ≡ Fresh → ⊥) → n < length states
known-within states n f = elim (cases_lt n (length states)) [ inl lt ↦ lt | inr le ↦ absurd (f (get_or-eq_default states Fresh le)) ]

module _ {World : Type 0} (r : Rules World) where
  chain-head : (seen : List World) (root : ℕ) (f g : Frame) (fs : List Frame) (w : World) (ws : List World) → g.node ≡ f.node → IsChain r seen root f fs w ws → IsChain r seen root g fs w ws
  chain-head seen root f g [] w ws e h = (ap (slice_get seen) e ∙ h.0, e ∙ h.1)
  chain-head seen root f g (p ∷ fs) w [] e h = absurd h
  chain-head seen root f g (p ∷ fs) w (v ∷ ws) e h = (ap (slice_get seen) e ∙ h.0, h.1, h.2, h.3, h.4)

  chain-at : (seen : List World) (root : ℕ) (f : Frame) (fs : List Frame) (w : World) (ws : List World) → IsChain r seen root f fs w ws → slice_get seen f.node ≡ Some w
  chain-at seen root f [] w ws h = h.0
  chain-at seen root f (p ∷ fs) w [] h = absurd h
  chain-at seen root f (p ∷ fs) w (v ∷ ws) h = h.0

  chain-later : (old new : List World) (root : ℕ) (f : Frame) (fs : List Frame) (w : World) (ws : List World) → GoesOn old new → IsChain r old root f fs w ws → IsChain r new root f fs w ws
  chain-later old new root f [] w ws g h = (seen-later old new f.node w g h.0, h.1)
  chain-later old new root f (p ∷ fs) w [] g h = absurd h
  chain-later old new root f (p ∷ fs) w (v ∷ ws) g h = (seen-later old new f.node w g h.0, h.1, h.2, h.3, chain-later old new root p fs v ws g h.4)

  pub walk-passed : (seen : List World) (w : World) (ws : List World) (walk new : Walk) → IsWalk r seen w ws walk → walk.at.letter < 8 → r.can w walk.at.letter ≡ false
      → new ≡ record { root = walk.root; states = walk.states; parents = walk.parents; edges = walk.edges; at = record { node = walk.at.node; letter = walk.at.letter + 1 } } → IsWalk r seen w ws new
  walk-passed seen w ws walk new h lt not e = subst (λ (x : Walk). IsWalk r seen w ws x) (sym e) (record {
    chain = chain-head seen walk.root walk.at (record { node = walk.at.node; letter = walk.at.letter + 1 }) (reverse walk.parents.items) w ws refl h.chain;
    book = book-passed r seen walk.states.items walk.edges.items walk.at (reverse walk.parents.items) w (chain-at seen walk.root walk.at (reverse walk.parents.items) w ws h.chain) not h.book;
    few = omega arith;
    nodes = h.nodes;
  })

  -- the node that is on is open
  pub walk-open : (seen : List World) (w : World) (ws : List World) (walk : Walk) → IsWalk r seen w ws walk → state_at walk.states.items walk.at.node ≡ Open
  walk-open seen w ws walk h = (h.book.opened walk.at (inl refl)).state

  -- the same walk with other parts
  record_walk : (seen : List World) (w : World) (ws : List World) (new : Walk) (root : ℕ) (at : Frame) (stack : List Frame) (states : List State) (edges : List Edge)
      → new.root ≡ root → new.at ≡ at → reverse new.parents.items ≡ stack → new.states.items ≡ states → new.edges.items ≡ edges
      → IsChain r seen root at stack w ws → IsBook r seen states edges (at ∷ stack) → at.letter ≤ 8 → length states ≤ length seen → IsWalk r seen w ws new
  record_walk seen w ws new root at stack states edges er ea es et ed chain book few nodes = record {
    chain = rw (er, ea, es) chain;
    book = rw (ea, es, et, ed) book;
    few = rw ea few;
    nodes = rw et nodes;
  }

  pub walk-entered : (old new : List World) (w v : World) (ws : List World) (walk after : Walk) (to : ℕ) → IsWalk r old w ws walk → walk.at.letter < 8 → r.can w walk.at.letter ≡ true → v ≡ r.next w walk.at.letter
      → GoesOn old new → slice_get new to ≡ Some v → state_at walk.states.items to ≡ Fresh → IsEntered walk after to → IsWalk r new v (w ∷ ws) after
  walk-entered old new w v ws walk after to h lt can is g there fresh entered =
      let stack = reverse walk.parents.items in
      record_walk new v (w ∷ ws) after walk.root (record { node = to; letter = 0 }) (walk.at ∷ stack) after.states.items walk.edges.items
      entered.root entered.at (ap reverse entered.parents ∙ reverse-last walk.parents.items walk.at) refl entered.edges
      (there, lt, can, is, chain-later old new walk.root walk.at stack w ws g h.chain)
      (book-entered r new walk.states.items after.states.items walk.edges.items (walk.at ∷ stack) to v there fresh entered.states (book-later r old new walk.states.items walk.edges.items (walk.at ∷ stack) g h.book))
      (omega arith)
      (let a = entered.states.long in let b = slice_get_within new to v there in let c = seen-longer old new g in let d = h.nodes in omega arith)

  pub walk-emitted : (old new : List World) (w : World) (ws : List World) (walk after : Walk) (to offset : ℕ) → IsWalk r old w ws walk → walk.at.letter < 8 → r.can w walk.at.letter ≡ true
      → GoesOn old new → slice_get new to ≡ Some (r.next w walk.at.letter) → offset ≡ r.offset w walk.at.letter → state_at walk.states.items to ≡ Done → IsEmitted walk after walk.at to offset → IsWalk r new w ws after
  walk-emitted old new w ws walk after to offset h lt can g there is done emitted =
      let stack = reverse walk.parents.items in
      let chain = chain-later old new walk.root walk.at stack w ws g h.chain in
      record_walk new w ws after walk.root (record { node = walk.at.node; letter = walk.at.letter + 1 }) stack walk.states.items (walk.edges.items ++ record { from = walk.at.node; letter = walk.at.letter; to = to; offset = offset } ∷ [])
      emitted.root emitted.at (ap reverse emitted.parents) emitted.states emitted.edges
      (chain-head new walk.root walk.at (record { node = walk.at.node; letter = walk.at.letter + 1 }) stack w ws refl chain)
      (book-emitted r new walk.states.items walk.edges.items walk.at stack w to offset (chain-at new walk.root walk.at stack w ws chain) lt can there is done
      (book-later r old new walk.states.items walk.edges.items (walk.at ∷ stack) g h.book))
      (omega arith)
      (let c = seen-longer old new g in let d = h.nodes in omega arith)

  pub walk-back : (seen : List World) (w v : World) (ws vs : List World) (walk mid after : Walk) (frame : Frame) (offset : ℕ) → IsWalk r seen w ws walk → walk.at.letter ≡ 8 → IsFinished walk mid (Some frame)
      → ws ≡ v ∷ vs → offset ≡ r.offset v frame.letter → IsEmitted mid after frame walk.at.node offset → IsWalk r seen v vs after
  walk-back seen w v ws vs walk mid after frame offset h all finished e is emitted =
      let rest = reverse mid.parents.items in
      let stack : reverse walk.parents.items ≡ frame ∷ rest = ap reverse finished.parents ∙ reverse-last mid.parents.items frame in
      let chain : IsChain r seen walk.root walk.at (frame ∷ rest) w (v ∷ vs) =
      subst (λ (us : List World). IsChain r seen walk.root walk.at (frame ∷ rest) w us) e (subst (λ (fs : List Frame). IsChain r seen walk.root walk.at fs w ws) stack h.chain) in
      let book : IsBook r seen walk.states.items walk.edges.items (walk.at ∷ frame ∷ rest) = subst (λ (fs : List Frame). IsBook r seen walk.states.items walk.edges.items (walk.at ∷ fs)) stack h.book in
      record_walk seen v vs after walk.root (record { node = frame.node; letter = frame.letter + 1 }) rest mid.states.items (walk.edges.items ++ record { from = frame.node; letter = frame.letter; to = walk.at.node; offset = offset } ∷ [])
      (emitted.root ∙ finished.root) emitted.at (ap reverse emitted.parents) emitted.states (emitted.edges ∙ ap (λ (es : List Edge). es ++ record { from = frame.node; letter = frame.letter; to = walk.at.node; offset = offset } ∷ []) finished.edges)
      (chain-head seen walk.root frame (record { node = frame.node; letter = frame.letter + 1 }) rest v vs refl chain.4)
      (book-emitted r seen mid.states.items walk.edges.items frame rest v walk.at.node offset (chain-at seen walk.root frame rest v vs chain.4) chain.1 chain.2 (chain.0 ∙ ap Some chain.3) is finished.states.same
      (book-finished r seen walk.states.items mid.states.items walk.edges.items walk.at (frame ∷ rest) all finished.states book))
      (let lt = chain.1 in omega arith)
      (let a = finished.states.long in let b = slice_get_within seen walk.at.node w chain.0 in let d = h.nodes in omega arith)

  pub walk-over : (seen : List World) (w : World) (ws : List World) (walk mid : Walk) → IsWalk r seen w ws walk → walk.at.letter ≡ 8 → IsFinished walk mid None → IsWalked r seen mid
  walk-over seen w ws walk mid h all finished =
      let empty : reverse walk.parents.items ≡ [] = ap reverse (finished.parents ∙ append-nil mid.parents.items ∙ none-left mid.parents.items (finished.empty refl)) in
      let chain : IsChain r seen walk.root walk.at [] w ws = subst (λ (fs : List Frame). IsChain r seen walk.root walk.at fs w ws) empty h.chain in
      let book : IsBook r seen walk.states.items walk.edges.items (walk.at ∷ []) = subst (λ (fs : List Frame). IsBook r seen walk.states.items walk.edges.items (walk.at ∷ fs)) empty h.book in
      record {
        book = rw finished.edges (book-finished r seen walk.states.items mid.states.items walk.edges.items walk.at [] all finished.states book);
        root = ap (state_at mid.states.items) (finished.root ∙ sym chain.1) ∙ finished.states.same;
        nodes = let a = finished.states.long in let b = slice_get_within seen walk.at.node w chain.0 in let d = h.nodes in omega arith;
      }

  pub walk-started : (seen : List World) (w : World) (ws : List World) (root : ℕ) (walk : Walk) → slice_get seen root ≡ Some w → IsPut [] walk.states.items root Open
      → walk.root ≡ root → walk.at ≡ record { node = root; letter = 0 } → walk.parents.items ≡ [] → walk.edges.items ≡ [] → IsWalk r seen w ws walk
  walk-started seen w ws root walk there put er ea ep ee =
      record_walk seen w ws walk root (record { node = root; letter = 0 }) [] walk.states.items [] er ea (ap reverse ep) refl ee (there, refl)
      (book-entered r seen [] walk.states.items [] [] root w there refl put nothing)
      (omega arith)
      (let a = put.long in let b = slice_get_within seen root w there in omega arith)
    where
      nothing : IsBook r seen [] [] []
      nothing = record {
        opened = λ f h. absurd h;
        apart = tt;
        on = λ n h. absurd (fresh-not-open h);
        done = λ n h. absurd (fresh-not-done h);
        targets = λ e h. absurd h;
        sources = λ e h. absurd h;
        steps = λ e h. absurd h;
        order = tt;
      }

  pub graph-of : (seen : List World) (start : World) (root : ℕ) (walk : Walk) → IsWalked r seen walk → slice_get seen root ≡ Some start → walk.root ≡ root → IsGraph r seen start root (length walk.states.items) walk.edges.items
  graph-of seen start root walk h there e =
      let done : state_at walk.states.items root ≡ Done = ap (state_at walk.states.items) (sym e) ∙ h.root in
      record {
        starts = there;
        few = h.nodes;
        inside = known-within walk.states.items root (done-not-fresh (state_at walk.states.items root) done);
        within = λ d k. (known-within walk.states.items d.from (h.book.sources d k), known-within walk.states.items d.to (done-not-fresh (state_at walk.states.items d.to) (h.book.targets d k)));
        order = h.book.order;
        steps = h.book.steps;
        whole = h.book.done root done;
        further = λ d k. h.book.done d.to (h.book.targets d k);
      }

  runs-last : (v : World) (t : List ℕ) (a : ℕ) → Runs r v t → a < 8 → r.can (behind r v t) a ≡ true → Runs r v (t ++ a ∷ [])
  runs-last v [] a h lt can = (lt, can, tt)
  runs-last v (b ∷ t) a h lt can = (h.0, h.1, runs-last (r.next v b) t a h.2 lt can)

  behind-last : (v : World) (t : List ℕ) (a : ℕ) → behind r v (t ++ a ∷ []) ≡ r.next (behind r v t) a
  behind-last v [] a = refl
  behind-last v (b ∷ t) a = behind-last (r.next v b) t a

  -- a word that leads from one world to another
  record IsWay (v w : World) : Type 0 where
    pub word : List ℕ
    pub runs : Runs r v word
    pub to : behind r v word ≡ w

  way-last : (v w : World) (a : ℕ) (y : IsWay v w) → a < 8 → r.can w a ≡ true → IsWay v (r.next w a)
  way-last v w a y lt can = record {
    word = y.word ++ a ∷ [];
    runs = runs-last v y.word a y.runs lt (ap (λ x. r.can x a) y.to ∙ can);
    to = behind-last v y.word a ∙ ap (λ x. r.next x a) y.to;
  }

  -- from the world of an open node words lead to the world now
  chain-way : (seen : List World) (root : ℕ) (f : Frame) (fs : List Frame) (w : World) (ws : List World) (n : ℕ) (v : World) → IsChain r seen root f fs w ws → Has n (map (λ (x : Frame). x.node) (f ∷ fs))
      → slice_get seen n ≡ Some v → IsWay v w
  chain-way seen root f [] w ws n v h (inl e) there = record { word = []; runs = tt; to = same-world seen n v w there (ap (slice_get seen) e ∙ h.0) }
  chain-way seen root f [] w ws n v h (inr k) there = absurd k
  chain-way seen root f (g ∷ fs) w [] n v h k there = absurd h
  chain-way seen root f (g ∷ fs) w (u ∷ ws) n v h (inl e) there = record { word = []; runs = tt; to = same-world seen n v w there (ap (slice_get seen) e ∙ h.0) }
  chain-way seen root f (g ∷ fs) w (u ∷ ws) n v h (inr k) there =
      let y = way-last v u g.letter (chain-way seen root g fs u ws n v h.4 k there) h.1 h.2 in
      record { word = y.word; runs = y.runs; to = y.to ∙ sym h.3 }

  pub walk-circle : (old new : List World) (w : World) (ws : List World) (walk : Walk) (to : ℕ) → IsWalk r old w ws walk → walk.at.letter < 8 → r.can w walk.at.letter ≡ true
      → GoesOn old new → slice_get new to ≡ Some (r.next w walk.at.letter) → state_at walk.states.items to ≡ Open → LeadsBack r
  walk-circle old new w ws walk to h lt can g there is =
      let stack = reverse walk.parents.items in
      let v = r.next w walk.at.letter in
      let y = chain-way new walk.root walk.at stack w ws to v (chain-later old new walk.root walk.at stack w ws g h.chain) (h.book.on to is) there in
      record { world = v; word = y.word ++ walk.at.letter ∷ []; some = rw length_push (omega arith); runs = runs-last v y.word walk.at.letter y.runs lt (ap (λ x. r.can x walk.at.letter) y.to ∙ can); back = behind-last v y.word walk.at.letter ∙ ap (λ x. r.next x walk.at.letter) y.to }
