-- The orders of a spec in classes, by what they show.
use Rattle.std.specs.Prelude.{◌≡◌, ℕ, ◌+◌, ◌<◌, ◌^◌, List, [], ◌∷◌, map, Some, option_map}
use Rattle.lock_queues.specs.Reasons.{Among}
use Rattle.binding_model.specs.declared.tables.Table.{Table}
use Rattle.bound_specs.specs.Spec.{Spec, line_of}
use Rattle.spec_schedules.specs.declared.kind.Kind.{Kind}
use Rattle.spec_schedules.specs.Ranked.{IsOrderAt}
use Rattle.order_classes.specs.declared.shows.Shows.{Shows}
use Rattle.order_classes.specs.Shows.{shows_of_line}
use Rattle.order_classes.specs.Letters.{Answers, answers_of, session_orders, serial_line}
use Rattle.order_classes.specs.Numbers.{IsNumberOf, IsLeastOf, RiseFrom}
use Rattle.spec_classes.specs.declared.classes.OrderClass.{OrderClass}

-- the orders of these ranks of a spec, each by itself: those of a spec that has their lines
abbrev pub drawn : Spec → List ℕ → Spec
drawn run ranks = record {
  sessions = run.sessions;
  steps = run.steps;
  setups = run.setups;
  session_setups = run.session_setups;
  lines = map (line_of run) ranks;
}

-- the order of a rank shows this
abbrev pub ShowsAt : Kind → List Table → Spec → ℕ → Shows → Type 0
ShowsAt kind tables run rank s = (ks : List ℕ) × IsOrderAt kind run rank ks × (shows_of_line tables run ks ≡ Some s)

-- a class has all orders that show what it does: so many, with this first rank and the steps of the order of that rank
pub record IsClassOf (kind : Kind) (tables : List Table) (run : Spec) (c : OrderClass) : Type 0 where
  pub count : IsNumberOf (λ rank. ShowsAt kind tables run rank c.shows) c.count
  pub first : IsLeastOf (λ rank. ShowsAt kind tables run rank c.shows) c.first
  pub line : IsOrderAt kind run c.first c.line.items
  pub shows : shows_of_line tables run c.line.items ≡ Some c.shows

-- all counts
abbrev pub total_count : List OrderClass → ℕ
total_count [] = 0
total_count (c ∷ cs) = c.count + total_count cs

-- the classes of all orders of the kind, by what they show, in the order of their first ranks: a rank has one order, and all counts have a sum below 2^63
pub record AreClassesOf (kind : Kind) (tables : List Table) (run : Spec) (cs : List OrderClass) : Type 0 where
  pub each : (c : OrderClass) → Among c cs → IsClassOf kind tables run c
  pub all : (rank : ℕ) (s : Shows) → ShowsAt kind tables run rank s → (c : OrderClass) × Among c cs × (c.shows ≡ s)
  pub alone : (rank : ℕ) (ks ls : List ℕ) → IsOrderAt kind run rank ks → IsOrderAt kind run rank ls → ks ≡ ls
  pub rise : RiseFrom 0 (map (λ (c : OrderClass). c.first) cs)
  pub few : total_count cs < 2 ^ 63

-- ---- serial orders

-- the sessions, one behind the other in this order, each whole, answer so
abbrev pub AnswersSerially : List Table → Spec → List ℕ → Answers → Type 0
AnswersSerially tables run order a = option_map answers_of (shows_of_line tables run (serial_line run order)) ≡ Some a

-- the answers of all serial orders of a spec, and no others
pub record AreSerialAnswers (tables : List Table) (run : Spec) (answers : List Answers) : Type 0 where
  pub each : (a : Answers) → Among a answers → (order : List ℕ) × Among order (session_orders run.sessions) × AnswersSerially tables run order a
  pub all : (order : List ℕ) → Among order (session_orders run.sessions) → (a : Answers) × Among a answers × AnswersSerially tables run order a

-- all counts of classes together are the number of the orders
abbrev pub CountsAddUp : Type 0
CountsAddUp =
    (kind : Kind) (tables : List Table) (run : Spec) (cs : List OrderClass) → AreClassesOf kind tables run cs
    → IsNumberOf (λ rank. (s : Shows) × ShowsAt kind tables run rank s) (total_count cs)
