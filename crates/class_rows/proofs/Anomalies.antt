-- What is an anomaly.
use Rattle.std.proofs.Common.{◌≡◌, ◌≢◌, refl, sym, ◌∙◌, subst, ℕ, Bool, true, false, not, List, [], ◌∷◌, slice_get, Option, Some, None}
use Rattle.std.specs.Option.{MatchOption, is_some}
use Rattle.lock_queues.specs.Reasons.{Among}
use Rattle.binding_model.specs.declared.tables.Table.{Table}
use Rattle.bound_specs.specs.Spec.{Spec}
use Rattle.order_classes.specs.declared.shows.Shows.{Shows}
use Rattle.order_classes.specs.Letters.{answers_of, is_through, IsR, LetterR}
use Rattle.spec_classes.specs.Classes.{AreSerialAnswers}
use Rattle.different_shows.proofs.Places.{at-among}

pub not-through : (tables : List Table) (run : Spec) (s : Shows) → run.lines ≡ [] → is_through s ≡ false → IsR tables run s (Some false)
not-through tables run s none over = (none, ((λ h. absurd (let bad : false ≡ true = h in cc)), (λ odd. absurd (let bad : false ≡ true = sym over ∙ odd.through in cc))))

-- where no serial order answers so, and only there
by-answers : (tables : List Table) (run : Spec) (s : Shows) (serial : List Shows) → run.lines ≡ [] → is_through s ≡ true → AreSerialAnswers tables run serial
    → (Among (answers_of s) serial → ⊥) → LetterR tables run s
by-answers tables run s serial none through are nobody = record {
  through = through;
  other = record {
    words = none;
    none = λ order m e.
        (let x = are.all order m in
        let both : Some x.0 ≡ Some (answers_of s) = sym x.2 ∙ e in
        let same : x.0 ≡ answers_of s = cc in
        nobody (subst (λ a. Among a serial) same x.1));
  };
}

pub found-r : (tables : List Table) (run : Spec) (s a : Shows) (serial : List Shows) (o : Option ℕ) (b : Bool) → run.lines ≡ [] → is_through s ≡ true
    → AreSerialAnswers tables run serial → a ≡ answers_of s → MatchOption o (Among a serial → ⊥) (λ n. slice_get serial n ≡ Some a) → is_some o ≡ not b
    → IsR tables run s (Some b)
found-r tables run s a serial None true none through are own nobody is =
    (none, ((λ h. by-answers tables run s serial none through are (subst (λ x. Among x serial → ⊥) own nobody)), (λ odd. refl)))
found-r tables run s a serial None false none through are own nobody is = absurd (let bad : false ≡ true = is in cc)
found-r tables run s a serial (Some n) true none through are own at is = absurd (let bad : true ≡ false = is in cc)
found-r tables run s a serial (Some n) false none through are own at is = (none, ((λ h. absurd (let bad : false ≡ true = h in cc)), (λ odd. absurd (never odd))))
  where
    never : LetterR tables run s → ⊥
    never odd =
        let x = are.each (answers_of s) (at-among serial n (answers_of s) (subst (λ y. slice_get serial n ≡ Some y) own at)) in
        odd.other.none x.0 x.1 x.2
