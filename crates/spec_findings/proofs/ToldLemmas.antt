-- One fault more behind what is told.
use Rattle.std.proofs.Common.{◌≡◌, refl, sym, ap, ◌∙◌, ℕ, ◌+◌, ◌<◌, List, [], ◌∷◌, ◌++◌, length, get_or, take, append_assoc}
use Rattle.std.proofs.lemmas.List.{map-append, take_more}
use Rattle.binding_model.specs.declared.error.BindError.{BindError}
use Rattle.spec_findings.specs.Told.{Also, also_line, also_lines, TellsFaults}

also_lines-append : (path text : List ℕ) (xs ys : List Also) → also_lines path text (xs ++ ys) ≡ also_lines path text xs ++ also_lines path text ys
also_lines-append path text [] ys = refl
also_lines-append path text (x ∷ xs) ys =
    ap (λ (bs : List ℕ). also_line path text x ++ bs) (also_lines-append path text xs ys)
    ∙ sym (append_assoc (also_line path text x) (also_lines path text xs) (also_lines path text ys))

no-more : (bs : List ℕ) → bs ++ [] ≡ bs
no-more [] = refl
no-more (b ∷ bs) = ap (λ (cs : List ℕ). b ∷ cs) (no-more bs)

pub tells-none : (path text before : List ℕ) → TellsFaults path text before [] before
tells-none path text before = record { more = []; faults_are = refl; told_is = sym (no-more before) }

pub tells-more : (path text before told told' : List ℕ) (faults : List BindError) (i : ℕ) (d : BindError) → i < length faults
    → TellsFaults path text before (take i faults) told → (sentence : List ℕ)
    → told' ≡ told ++ also_line path text (record { error = get_or faults i d; sentence = sentence }) → TellsFaults path text before (take (i + 1) faults) told'
tells-more path text before told told' faults i d h so_far sentence e =
    let a : Also = record { error = get_or faults i d; sentence = sentence } in
    record {
      more = so_far.more ++ a ∷ [];
      faults_are = map-append (λ (x : Also). x.error) so_far.more (a ∷ [])
          ∙ ap (λ (es : List BindError). es ++ get_or faults i d ∷ []) so_far.faults_are ∙ sym (take_more faults i d h);
      told_is = e ∙ ap (λ (bs : List ℕ). bs ++ also_line path text a) so_far.told_is
          ∙ append_assoc before (also_lines path text so_far.more) (also_line path text a)
          ∙ ap (λ (bs : List ℕ). before ++ (also_lines path text so_far.more ++ bs)) (sym (no-more (also_line path text a)))
          ∙ ap (λ (bs : List ℕ). before ++ bs) (sym (also_lines-append path text so_far.more (a ∷ [])));
    }
