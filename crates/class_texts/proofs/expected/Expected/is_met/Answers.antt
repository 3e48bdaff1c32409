use Rattle.std.proofs.Common.{◌∙◌, ap}
use Rattle.std.specs.List.{list_all}
use Rattle.class_texts.specs.Expected.{is_met, meets}
use Rattle.class_texts.proofs.MeetLemmas.{all_met}
use Rattle.class_texts.proofs.expected.Expected.is_met.Goals as goal

pub returns : goal.returns
returns c =
    c.are_met.ensures
    ∙ ap (λ vs. list_all (λ v. meets c.self.inside.values.now v.items) vs) c.deref.ensures.value
    ∙ all_met (λ v. v.items) c.self.inside.values.now c.self.inside.seen.items
    ∙ ap is_met c.self.view_is
