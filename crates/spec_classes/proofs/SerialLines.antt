-- A serial line sends the steps of its sessions one behind the other, each session's whole.
use Rattle.std.proofs.Common.{◌≡◌, ◌≢◌, refl, sym, ap, ◌∙◌, subst, ℕ, zero, suc, ◌<◌, ◌≤◌, cond, ◌==◌, List, [], ◌∷◌, ◌++◌, length, set, get_or, replicate, ⊎_elim}
use Rattle.std.proofs.Common.{arith, eq-eqb, get_or-set_same, get_or-set_other}
use Rattle.std.proofs.lemmas.Bool.{cases_lt}
use Rattle.std.proofs.lemmas.List.{get_or_past, set-get_or}
use Rattle.perm_ranks.specs.Words.{Word}
use Rattle.bound_specs.specs.Spec.{Step, Spec, Queues, queues_of, counts_of, line}
use Rattle.bound_specs.proofs.WalkLemmas.{line-takes, get_or-counts, get_or-queues_at, queues_at-start}
use Rattle.machine_model.specs.World.{World, send, send_all}
use Rattle.order_classes.specs.Letters.{times, whole_word, serial_line, IsOrder}
use Rattle.spec_classes.specs.Serial.{own_steps, whole, behind}

set-set : (q : Queues) (i : ℕ) (ks ls : List ℕ) → set (set q i ks) i ls ≡ set q i ls
set-set [] i ks ls = refl
set-set (x ∷ q) zero ks ls = refl
set-set (x ∷ q) (suc i) ks ls = ap (λ r. x ∷ r) (set-set q i ks ls)

-- all letters of a session send its queue
line-whole : (q : Queues) (i : ℕ) (ks : List ℕ) (word : Word) → get_or q i [] ≡ ks → line q (replicate (length ks) i ++ word) ≡ ks ++ line (set q i []) word
line-whole q i [] word e = ap (λ r. line r word) (sym (set-get_or q i []) ∙ ap (set q i) e)
line-whole q i (k ∷ ks) word e =
    let lt : i < length q = ⊎_elim (λ l. l) (λ le. absurd (let bad : [] ≡ k ∷ ks = sym (get_or_past q i [] le) ∙ e in cc)) (cases_lt i (length q)) in
    line-takes q i k ks (replicate (length ks) i ++ word) e
    ∙ ap (λ l. k ∷ l) (line-whole (set q i ks) i ks word (get_or-set_same q i ks [] lt) ∙ ap (λ r. ks ++ line r word) (set-set q i ks []))

send-append : (steps : List Step) (w : World) (ks ls : List ℕ) → send_all steps w (ks ++ ls) ≡ send_all steps (send_all steps w ks) ls
send-append steps w [] ls = refl
send-append steps w (k ∷ ks) ls = send-append steps (send steps w k) ks ls

pub times-here : (i : ℕ) (order : List ℕ) → times i (i ∷ order) ≡ suc (times i order)
times-here i order = let one : ◌≡◌ {A = ℕ} (cond (i == i) 1 0) 1 = ap (λ b. cond b 1 0) (eq-eqb i i refl) in omega (arith, one)

module _ (run : Spec) (counts : List ℕ) where
  -- each session stands there once at most, and those that do have all their steps left
  sent-whole : (order : List ℕ) (q : Queues) (w : World) → ((i : ℕ) → times i order ≤ 1) → ((i : ℕ) → 0 < times i order → get_or q i [] ≡ own_steps run i)
      → ((i : ℕ) → 0 < times i order → get_or counts i 0 ≡ length (own_steps run i)) → send_all run.steps w (line q (whole_word counts order)) ≡ behind run w order
  sent-whole [] q w once queue count = refl
  sent-whole (i ∷ order) q w once queue count =
      let own = own_steps run i in
      let word = whole_word counts order in
      let one = once i in
      let here = times-here i order in
      let some : 0 < times i (i ∷ order) = omega (arith, here) in
      ap (λ n. send_all run.steps w (line q (replicate n i ++ word))) (count i some)
      ∙ ap (send_all run.steps w) (line-whole q i own word (queue i some))
      ∙ send-append run.steps w own (line (set q i []) word)
      ∙ sent-whole order (set q i []) (whole run w i)
      (λ j. (let least = once j in omega (arith, least)))
      (λ j in'. (let apart : j ≢ i = λ e. (let twice : 0 < times i order = subst (λ k. 0 < times k order) e in' in omega (arith, one, here, twice)) in
      get_or-set_other q i j [] [] apart ∙ queue j (omega (arith, in'))))
      (λ j in'. count j (omega (arith, in')))

-- the line of an order of all sessions
pub serial-sent : (run : Spec) (order : List ℕ) (w : World) → IsOrder run.sessions order → send_all run.steps w (serial_line run order) ≡ behind run w order
serial-sent run order w h = sent-whole run (counts_of (queues_of run)) order (queues_of run) w
    (λ i. ⊎_elim (λ lt. (let one = h.each i lt in omega (arith, one))) (λ le. (let none = h.none i le in omega (arith, none))) (cases_lt i run.sessions))
    queue (λ i some. get_or-counts (queues_of run) i ∙ ap (λ (ks : List ℕ). length ks) (queue i some))
  where
    inside : (i : ℕ) → 0 < times i order → i < run.sessions
    inside i some = ⊎_elim (λ lt. lt) (λ le. absurd (let none = h.none i le in omega (arith, none, some))) (cases_lt i run.sessions)

    queue : (i : ℕ) → 0 < times i order → get_or (queues_of run) i [] ≡ own_steps run i
    queue i some =
        ap (λ (q : Queues). get_or q i []) (sym (queues_at-start run.steps 0 run.sessions [] (λ j. refl)))
        ∙ get_or-queues_at run.steps 0 run.sessions i i [] (inside i some) (omega arith)
