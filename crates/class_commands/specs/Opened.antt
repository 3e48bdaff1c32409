-- Pages of classes that a browser opens.
use Rattle.std.specs.Prelude.{◌≡◌, ℕ, true, false, List, [], ◌∷◌, ◌++◌, flat_map, take}
use Rattle.std.specs.List.{AllZip}
use Rattle.bound_specs.specs.Spec.{SpecFile}
use Rattle.order_classes.specs.declared.rows.ClassRow.{ClassRow}
use Rattle.spec_commands.specs.Showing.{IsShowing}
use Rattle.spec_commands.specs.declared.showing.ShowForm.TheVariants.{Json}
use Rattle.class_texts.specs.Pages.{Page}
use Rattle.class_texts.specs.Records.{record_bytes}
use Rattle.page_texts.specs.Parts.{text_of}
use Rattle.page_texts.specs.declared.part.Part.TheVariants.{Front, Style, Middle, Between, BackBegin, Script, BackEnd}
use Rattle.wanted_classes.specs.declared.wanted.WantedForm.{WantedForm}
use Rattle.wanted_classes.specs.declared.wanted.WantedForm.TheVariants as wanted
use Rattle.class_commands.specs.Written.{IsWritten}
use Rattle.class_commands.specs.declared.opened.TheConstants.{MAX_SHOWN}

-- the line behind which there is a line feed
abbrev pub line : List ℕ → List ℕ
line text = text ++ 10 ∷ []

-- what `show` prints as JSON of the least order of a class, without its line feed
abbrev pub IsOrderOf : List ℕ → List ℕ → SpecFile → ClassRow → List ℕ → Type 0
IsOrderOf bytes path file row order = IsShowing bytes path file row.least Json (line order)

-- an order as it stands on the page
abbrev pub order_part : List ℕ → List ℕ
order_part order = text_of Between ++ order

-- one of each class, one behind the other
abbrev pub AreOrdersOf : List ℕ → List ℕ → SpecFile → List ClassRow → List ℕ → Type 0
AreOrdersOf bytes path file rows text = (orders : List (List ℕ)) × AllZip (IsOrderOf bytes path file) rows orders × (text ≡ flat_map order_part orders)

-- all parts of the page, with the classes and the orders
abbrev pub page_html : List ℕ → List ℕ → List ℕ
page_html classes orders =
    text_of Front ++ text_of Style ++ text_of Middle ++ classes ++ orders ++ text_of BackBegin ++ text_of Script ++ text_of BackEnd

-- the page has what is written of the classes as JSON, without its line feed, and the least orders of the first classes
pub record IsPageOf (bytes : List ℕ) (file : SpecFile) (page : Page) (text : List ℕ) : Type 0 where
  pub classes : List ℕ
  pub as_json : IsWritten true bytes file page (line classes)
  pub orders : List ℕ
  pub are_orders : AreOrdersOf bytes page.path file (take MAX_SHOWN page.rows) orders
  pub text_is : text ≡ page_html classes orders

-- what is written of a page of classes in the form that is wanted
abbrev pub IsWrittenAs : WantedForm → List ℕ → SpecFile → Page → List ℕ → Type 0
IsWrittenAs wanted.Text bytes file page text = IsWritten false bytes file page text
IsWrittenAs wanted.Json bytes file page text = IsWritten true bytes file page text
IsWrittenAs wanted.Html bytes file page text = IsPageOf bytes file page text
IsWrittenAs wanted.Record bytes file page text = text ≡ record_bytes page

-- what the form wants of orders: a page that is opened has those of the first classes, and the others none
abbrev pub HasOrders : WantedForm → List ℕ → List ℕ → SpecFile → List ClassRow → List ℕ → Type 0
HasOrders wanted.Text bytes path file rows orders = Unit {0}
HasOrders wanted.Json bytes path file rows orders = Unit {0}
HasOrders wanted.Record bytes path file rows orders = Unit {0}
HasOrders wanted.Html bytes path file rows orders = AreOrdersOf bytes path file (take MAX_SHOWN rows) orders
