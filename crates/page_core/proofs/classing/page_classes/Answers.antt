use Rattle.std.proofs.Common.{inl, inr, refl, subst}
use Rattle.class_commands.specs.Classing.{IsTellingOf}
use Rattle.page_core.specs.Calls.{AreNotTold, HasNoText, IsPut}
use Rattle.page_core.specs.Ends.{classes_end, end_of}
use Rattle.page_core.specs.declared.ending.TheConstants.{ANSWERED}
use Rattle.page_core.proofs.classing.page_classes.Goals as goal

-- what is told under the name as text is told under its bytes
pub returns-in-Ok : goal.returns-in-Ok
returns-in-Ok c =
    let wanted = c.wanted-wanted.result in
    let text = c.in-Ok.answer.items in
    let told = subst (λ name. IsTellingOf c.args.spec.now name wanted text) c.in-Some.ensures c.in-Ok.ensures.told in
    let put = subst (λ ended. IsPut c.as_slice.result.now ended c.args.text.now c.put.new.text c.put.new.end c.put.result) c.end_of-in-Ok.ensures c.put.ensures in
    let whole = subst (λ text. IsPut text (end_of ANSWERED) c.args.text.now c.put.new.text c.put.new.end c.put.result) c.as_slice.ensures.value put in
    inl (inl (wanted, c.wanted-wanted.ensures, (text, told, whole)))

-- and what is refused is refused at the level for which the file asks
pub returns : goal.returns
returns c =
    let refused = subst (λ level. AreNotTold c.args.spec.now level c.in-Err.fault) c.wanted-wanted.ensures.as_asked c.in-Err.ensures.refused in
    let none = subst (λ ended. HasNoText ended c.args.text.now c.args.text.now c.refuse-in-Err.new.end c.refuse-in-Err.result) c.classes_end.ensures (c.refuse-in-Err.ensures, refl) in
    inl (inr (c.in-Err.fault, refused, none))
