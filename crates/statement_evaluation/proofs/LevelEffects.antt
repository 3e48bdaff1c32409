-- The level of a statement is in no effect of it, and a select that asks for nothing writes nothing.
use Rattle.std.proofs.Common.{◌≡◌, refl, true, List, [], ◌∷◌}
use Rattle.finite_maps.specs.Map.{entries}
use Rattle.lock_modes.specs.Rows.{Rows', Write}
use Rattle.bound_statements.specs.Levels.{at_level, is_unlocked}
use Rattle.bound_statements.specs.declared.statement.Bound.{Bound}
use Rattle.bound_statements.specs.declared.statement.Bound.TheVariants.{Select, Insert, Update, Delete, Begin, Commit, Rollback, Lock, SetVariable}
use Rattle.bound_statements.specs.declared.statement.Level.{Level}
use Rattle.statement_evaluation.specs.Effect.{Effect, Gives, Faults, effect, matching, visible}
use Rattle.statement_evaluation.proofs.ListLemmas.{Each}
use Rattle.statement_evaluation.proofs.WriteLemmas.{OnGives, on-selected}

pub effect-at : (l : Level) (st : Bound) (rows : Rows') → effect (at_level l st) rows ≡ effect st rows
unfolding effect
effect-at l (Select t key c by out lock) rows = refl
effect-at l (Insert t key new) rows = refl
effect-at l (Update t key sets c) rows = refl
effect-at l (Delete t key c) rows = refl
effect-at l (Lock t m n) rows = refl
effect-at l (Begin named) rows = refl
effect-at l Commit rows = refl
effect-at l Rollback rows = refl
effect-at l SetVariable rows = refl

-- no write is none of its own
no_writes : (ws : List Write) → Each (λ (w : Write). ⊥) ws → ws ≡ []
no_writes [] h = refl
no_writes (w ∷ ws) h = absurd h.0

writes_nothing : (e : Effect) → OnGives e (Each (λ (w : Write). ⊥)) → OnGives e (λ ws. ws ≡ [])
writes_nothing (Gives events ws) h = no_writes ws h
writes_nothing (Faults f) h = tt

pub unlocked-writes : (st : Bound) (rows : Rows') → is_unlocked st ≡ true → OnGives (effect st rows) (λ ws. ws ≡ [])
unfolding effect
unlocked-writes (Select t key c by out lock) rows e =
    writes_nothing (effect (Select t key c by out lock) rows)
    (on-selected (λ (w : Write). ⊥) by out (matching c (entries (visible (Select t key c by out lock) rows))))
unlocked-writes (Insert t key new) rows e = absurd (cc e)
unlocked-writes (Update t key sets c) rows e = absurd (cc e)
unlocked-writes (Delete t key c) rows e = absurd (cc e)
unlocked-writes (Lock t m n) rows e = absurd (cc e)
unlocked-writes (Begin named) rows e = absurd (cc e)
unlocked-writes Commit rows e = absurd (cc e)
unlocked-writes Rollback rows e = absurd (cc e)
unlocked-writes SetVariable rows e = absurd (cc e)
