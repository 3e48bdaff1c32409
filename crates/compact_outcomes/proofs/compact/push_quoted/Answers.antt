use Rattle.std.proofs.Common.{◌≡◌, sym, subst, ◌++◌, codes}
use Rattle.std.specs.Prelude.{EachIndex, OnOk, slice_index, string_bytes}
use Rattle.compact_outcomes.specs.CompactTexts.{IsPlain}
use Rattle.compact_outcomes.proofs.CompactLemmas.{plain-escape}
use Rattle.compact_outcomes.proofs.compact.push_quoted.Goals as goal

-- no byte needs an escape
pub returns-then-are_plain : goal.returns-then-are_plain
returns-then-are_plain c =
    let plain = subst (λ bytes. EachIndex bytes (λ k. IsPlain (slice_index bytes k))) c.as_bytes.ensures.value (c.are_plain.ensures c.if-are_plain.true) in
    subst (λ words. OnOk c.push_plain.result (string_bytes c.push_plain.new.text ≡ string_bytes c.args.text.now ++ (codes "\"" ++ (words ++ codes "\""))))
    (sym (plain-escape c.args.words.now plain)) c.push_plain.ensures
