-- The parts of a page that are the same on each, as constants have them.
use Rattle.std.specs.Prelude.{ℕ, List}
use Rattle.page_texts.specs.declared.part.Part.{Part}
use Rattle.page_texts.specs.declared.part.Part.TheVariants.{Front, Style, Middle, Between, BackBegin, Script, BackEnd}
use Rattle.page_texts.specs.declared.texts.TheConstants.{FRONT, STYLE, MIDDLE, BETWEEN, BACK_BEGIN, SCRIPT, BACK_END}

-- the text of a part. It does not unfold: what stands on it takes no text apart
unfoldable pub text_of : Part → List ℕ
text_of Front = FRONT.now
text_of Style = STYLE.now
text_of Middle = MIDDLE.now
text_of Between = BETWEEN.now
text_of BackBegin = BACK_BEGIN.now
text_of Script = SCRIPT.now
text_of BackEnd = BACK_END.now
