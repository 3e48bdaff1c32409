-- What is told of missing ranks.
use Rattle.std.proofs.Common.{◌≡◌, refl, sym, ap, subst, ℕ, ◌<◌, ◌≤◌, true, false, nat_lt, None, List, [], ◌∷◌, arith}
use Rattle.std.proofs.lemmas.Bool.{ltb-true, lt-ltb, and_parts, and_from, false_from_ne_true}
use Rattle.class_stretches.specs.Classes.{Run, in_runs, ranks_in, AreApart, Class, IsClass}
use Rattle.class_stretches.proofs.Counted.{class-number}
use Rattle.class_stretches.specs.declared.stretch.Stretch.{Stretch}
use Rattle.class_stretches.specs.Stretches.{class_at, end_of, same_class, AreStretches, Stretched, IsStretched, runs_with, missing_by}
use Rattle.class_stretches.specs.Groups.{is_missing, AreMissingRanks, IsMissingTold}
use Rattle.class_stretches.proofs.Ranks.{same-is}
use Rattle.class_stretches.proofs.Groups.{runs-within, runs-have, runs-apart, least-is}

to-runs : (ss : List Stretch) (r : ℕ) → is_missing ss r ≡ true → in_runs (runs_with None 0 ss) r ≡ true
to-runs ss r e =
    let p = and_parts (nat_lt r (end_of ss)) (same_class None (class_at ss r)) e in
    runs-have None 0 ss r (omega arith) (ltb-true r (end_of ss) p.0) (sym (same-is None (class_at ss r) p.1))

of-runs : (ss : List Stretch) (r : ℕ) → AreStretches 0 ss → in_runs (runs_with None 0 ss) r ≡ true → is_missing ss r ≡ true
of-runs ss r a e =
    let p = runs-within None 0 ss r a e in
    let none : same_class None (class_at ss r) ≡ true = ap (same_class None) p.2 in
    and_from (nat_lt r (end_of ss)) (same_class None (class_at ss r)) (lt-ltb r (end_of ss) p.1) none

pub missing-told : (s : Stretched) → IsStretched s → IsMissingTold s.list (missing_by (runs_with None 0 s.list))
missing-told s is = at (runs_with None 0 s.list) refl
  where
    some : (run : Run) (more : List Run) → runs_with None 0 s.list ≡ run ∷ more → AreMissingRanks s.list (record { ranks = ranks_in (run ∷ more); first = run.first })
    some run more e =
        let ss = s.list in
        let runs : List Run = run ∷ more in
        let apart : AreApart 0 runs = subst (AreApart 0) e (runs-apart None 0 ss is.stretches) in
        let least = least-is runs 0 run more apart refl in
        let back : (r : ℕ) → in_runs runs r ≡ true → is_missing ss r ≡ true
        = λ r h. of-runs ss r is.stretches (subst (λ rs. in_runs rs r ≡ true) (sym e) h) in
        let to : (r : ℕ) → is_missing ss r ≡ true → in_runs runs r ≡ true = λ r h. subst (λ rs. in_runs rs r ≡ true) e (to-runs ss r h) in
        let c : Class ℕ = record { least = run.first; count = ranks_in runs; runs = runs; shows = 0 } in
        let within : (r : ℕ) → in_runs runs r ≡ true → (0 ≤ r) × (r < end_of ss) × (in_runs runs r ≡ true)
        = λ r h. (omega arith, (let p = runs-within None 0 ss r is.stretches (to-runs ss r (back r h)) in p.1), h) in
        let class : IsClass (λ r a. in_runs runs r ≡ true) 0 (end_of ss) c = record {
          apart = apart;
          within = within;
          has_least = least.0;
          is_least = least.1;
          count = refl;
        } in
        let n = class-number (λ r a. in_runs runs r ≡ true) 0 (end_of ss) c class in
        record {
          number = record {
            ranks = n.ranks;
            rise = n.rise;
            has = λ r. (λ m. back r ((n.has r).0 m), λ h. (n.has r).1 (to r h));
            count = n.count;
          };
          there = back run.first least.0;
          least = λ r h. least.1 r (to r h);
        }

    at : (runs : List Run) → runs_with None 0 s.list ≡ runs → IsMissingTold s.list (missing_by runs)
    at [] e = λ r. false_from_ne_true (is_missing s.list r) (λ h. absurd (let f : false ≡ true = subst (λ rs. in_runs rs r ≡ true) e (to-runs s.list r h) in cc))
    at (run ∷ more) e = some run more e
