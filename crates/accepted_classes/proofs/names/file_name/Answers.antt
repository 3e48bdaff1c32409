use Rattle.std.proofs.Common.{◌≡◌, ◌∙◌, refl, sym, ap, subst, ◌++◌, ◌∷◌, take, drop, List, ℕ, inl, inr, arith}
use Rattle.std.proofs.lemmas.List.{take-append-drop}
use Rattle.std.proofs.lemmas.Str.Pattern.{NoCharPasses-char, drop_at_char}
use Rattle.accepted_classes.specs.Names.{HasNoSlash}
use Rattle.accepted_classes.proofs.names.file_name.Goals as goal

pub returns-in-Some : goal.returns-in-Some
returns-in-Some c =
    let path = c.args.path.now in
    let cut = c.in-Some.ensures.cases in
    let is : c.in-Some.name.now ≡ drop cut.1 path = cut.4 in
    let behind : take cut.0 path ++ 47 ∷ drop cut.1 path ≡ path =
    ap (λ (l : List ℕ). take cut.0 path ++ l) (sym (drop_at_char 47 path cut.0 cut.1 cut.2.1 (omega arith))) ∙ take-append-drop cut.0 path in (
      subst HasNoSlash (sym is) (λ place lt. NoCharPasses-char 47 (drop cut.1 path) place cut.2.0 (omega arith) lt),
      inr (take cut.0 path, sym (ap (λ (l : List ℕ). take cut.0 path ++ 47 ∷ l) is ∙ behind)),
    )

pub returns-in-None : goal.returns-in-None
returns-in-None c = (λ place lt. NoCharPasses-char 47 c.args.path.now place c.in-None.ensures.cases (omega arith) lt, inl refl)
