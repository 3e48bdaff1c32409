-- The parts of a book's object: one more part with each member, and the book of all.
use Rattle.std.proofs.Common.{◌≡◌, refl, sym, ap, subst, ◌∙◌, ℕ, ◌<◌, ◌≤◌, true, false, List, [], ◌∷◌, length, Option, Some, None, Ok, inl, arith}
use Rattle.std.specs.Prelude.{◌==◌, cond, option_and_then, option_map, codes, bytes_eq, string_bytes, Vec, IfSome}
use Rattle.std.specs.declared.alloc.Global.{Global}
use Rattle.std.specs.Option.{is_some}
use Rattle.std.specs.Str.{IsUtf8}
use Rattle.std.proofs.lemmas.List.Elements.{All-nil}
use Rattle.std.proofs.lemmas.Slice.Eq.{bytes_eq-Decides}
use Rattle.json.specs.Token.{Token}
use Rattle.json.specs.Json.{read_key}
use Rattle.json.specs.Lex.{tokens}
use Rattle.json.proofs.Grammar.{read_key-shorter}
use Rattle.serde_json.specs.Data.{Data, array, object, Items, Members, no_members, put}
use Rattle.serde_json.specs.Find.{as_array, as_number, as_str, as_u64, get_member}
use Rattle.serde_json.specs.Read.{read}
use Rattle.serde_json.proofs.Views.{get_member-put}
use Rattle.bound_specs.specs.Spec.{SpecFile}
use Rattle.fact_books.specs.declared.run.Run.{Run}
use Rattle.fact_books.specs.Entries.{FactSet, Told}
use Rattle.fact_books.specs.Recording.{EachRun, IsRecordableRun}
use Rattle.fact_books.specs.Runs.{AllSound, IsRising, firsts}
use Rattle.fact_books.specs.Books.{AllRecordable, Contents, facts_in}
use Rattle.fact_books.specs.Building.{Building}
use Rattle.book_format.specs.declared.pieces.TheConstants.{MAX_TEXT}
use Rattle.book_format.specs.Reading.{whole_in}
use Rattle.book_format.specs.ReadingBooks.{count_of, items_at, text_at, FactParts, RunParts, fact_parts, run_parts, IsBookFile, IsBookValue}
use Rattle.book_format.specs.ReadingRuns.{AreRunsOf}
use Rattle.book_format.specs.ReadingTokens.{AreOutcomesAt, AreRunsAt, AreFactsAt}
use Rattle.book_format.specs.Tokens.{IsValueAt, member_depth}
use Rattle.book_format.proofs.FactLaws.{facts-recordable}
use Rattle.book_format.proofs.ReadLemmas.{IsToldBy, outcomes-told}
use Rattle.book_format.proofs.RunLaws.{read-rising, read-sound, read-recordable}
use Rattle.book_format.proofs.TokenLemmas.{value-shorter}
use Rattle.book_files.specs.Members.{IsMember, IsNoted}
use Rattle.book_files.specs.Pieces.{IsGuess, IsFactsPart, IsOutcomesPart, IsFormatPart, IsSpecPart, one_if, one_where, AreParts, Takes, AreNone, AreAllParts}
use Rattle.book_files.specs.declared.guess.Guess.{Guess}
use Rattle.book_files.specs.declared.parts.Facts.{Facts}
use Rattle.book_files.specs.declared.parts.Facts.TheVariants.{Each, Runs}
use Rattle.book_files.specs.declared.parts.Parts.{Parts}
use Rattle.book_files.proofs.MemberLemmas.{AreMembersAt, members-end, members-more, object-at, whole-read, count-put, member-other, noted-other}

-- ---- one part more

other : (a b : List ℕ) → bytes_eq a b ≡ false → a ≡ b → ⊥
other a b differ same = let f : true ≡ false = sym (ap (λ x. bytes_eq a x) (sym same) ∙ itself a) ∙ differ in absurd (cc)
  where
    itself : (x : List ℕ) → bytes_eq x x ≡ true
    itself x = (bytes_eq-Decides x x).1 refl

pub with-facts : (guess : Guess) (d : Data) (old : Parts) (facts : Facts) (found : Members) → old.facts ≡ None → IsFactsPart guess facts d
    → AreParts guess found old
    → AreParts guess (put (codes "facts") d found) (record { facts = Some facts; format = old.format; outcomes = old.outcomes; spec = old.spec })
with-facts guess d old facts found none part h = record {
  facts = (d, get_member-put (codes "facts") d found, part);
  format = member-other IsFormatPart (codes "format") (codes "facts") d found old.format (other _ _ refl) h.format;
  outcomes = member-other (IsOutcomesPart guess) (codes "outcomes") (codes "facts") d found old.outcomes (other _ _ refl) h.outcomes;
  spec = noted-other (IsSpecPart guess) (codes "spec") (codes "facts") d found old.spec (other _ _ refl) h.spec;
  count =
      let more = count-put (codes "facts") d found (subst (λ o. IsMember (IsFactsPart guess) (codes "facts") found o) none h.facts) in
      let so_far = h.count in
      let was : one_if old.facts ≡ 0 = ap one_if none in
      omega (arith, more, so_far, was);
}

pub with-format : (guess : Guess) (d : Data) (old : Parts) (n : ℕ) (found : Members) → old.format ≡ None → IsFormatPart n d → AreParts guess found old
    → AreParts guess (put (codes "format") d found) (record { facts = old.facts; format = Some n; outcomes = old.outcomes; spec = old.spec })
with-format guess d old n found none part h = record {
  facts = member-other (IsFactsPart guess) (codes "facts") (codes "format") d found old.facts (other _ _ refl) h.facts;
  format = (d, get_member-put (codes "format") d found, part);
  outcomes = member-other (IsOutcomesPart guess) (codes "outcomes") (codes "format") d found old.outcomes (other _ _ refl) h.outcomes;
  spec = noted-other (IsSpecPart guess) (codes "spec") (codes "format") d found old.spec (other _ _ refl) h.spec;
  count =
      let more = count-put (codes "format") d found (subst (λ o. IsMember IsFormatPart (codes "format") found o) none h.format) in
      let so_far = h.count in
      let was : one_if old.format ≡ 0 = ap one_if none in
      omega (arith, more, so_far, was);
}

pub with-outcomes : (guess : Guess) (d : Data) (old : Parts) (outcomes : List Told) (found : Members) → old.outcomes ≡ None
    → IsOutcomesPart guess outcomes d → AreParts guess found old
    → AreParts guess (put (codes "outcomes") d found) (record { facts = old.facts; format = old.format; outcomes = Some outcomes; spec = old.spec })
with-outcomes guess d old outcomes found none part h = record {
  facts = member-other (IsFactsPart guess) (codes "facts") (codes "outcomes") d found old.facts (other _ _ refl) h.facts;
  format = member-other IsFormatPart (codes "format") (codes "outcomes") d found old.format (other _ _ refl) h.format;
  outcomes = (d, get_member-put (codes "outcomes") d found, part);
  spec = noted-other (IsSpecPart guess) (codes "spec") (codes "outcomes") d found old.spec (other _ _ refl) h.spec;
  count =
      let more = count-put (codes "outcomes") d found (subst (λ o. IsMember (IsOutcomesPart guess) (codes "outcomes") found o) none h.outcomes) in
      let so_far = h.count in
      let was : one_if old.outcomes ≡ 0 = ap one_if none in
      omega (arith, more, so_far, was);
}

pub with-spec : (guess : Guess) (d : Data) (old : Parts) (found : Members) → old.spec ≡ false → IsSpecPart guess d → AreParts guess found old
    → AreParts guess (put (codes "spec") d found) (record { facts = old.facts; format = old.format; outcomes = old.outcomes; spec = true })
with-spec guess d old found none part h = record {
  facts = member-other (IsFactsPart guess) (codes "facts") (codes "spec") d found old.facts (other _ _ refl) h.facts;
  format = member-other IsFormatPart (codes "format") (codes "spec") d found old.format (other _ _ refl) h.format;
  outcomes = member-other (IsOutcomesPart guess) (codes "outcomes") (codes "spec") d found old.outcomes (other _ _ refl) h.outcomes;
  spec = (d, get_member-put (codes "spec") d found, part);
  count =
      let more = count-put (codes "spec") d found (subst (λ b. IsNoted (IsSpecPart guess) (codes "spec") found b) none h.spec) in
      let so_far = h.count in
      let was : one_where old.spec ≡ 0 = ap one_where none in
      omega (arith, more, so_far, was);
}

-- ---- what an array says is a part

pub each-part : (guess : Guess) (ts left : List Token) (built : Building) → AreFactsAt guess.spec.run ts built.facts left
    → (d : Data) × IsValueAt member_depth ts d left × IsFactsPart guess (Each built) d
each-part guess ts left built (ds, entries, at, are, is) = (array ds, at, (ds, entries, refl, are, is))

pub runs-part : (guess : Guess) (ts left : List Token) (runs : Vec Run Global) → AreRunsAt guess.spec.run guess.outcomes ts runs.items left
    → (d : Data) × IsValueAt member_depth ts d left × IsFactsPart guess (Runs runs) d
runs-part guess ts left runs (ds, at, are) = (array ds, at, (ds, refl, are))

pub outcomes-part : (guess : Guess) (ts left : List Token) (outcomes : List Told) → AreOutcomesAt guess.spec.run ts outcomes left
    → (d : Data) × IsValueAt member_depth ts d left × IsOutcomesPart guess outcomes d
outcomes-part guess ts left outcomes (ds, at, are) = (array ds, at, (ds, refl, are))

-- ---- all parts

-- the members that are read so far, and those that are still to come
pub record AreMembersTo (guess : Guess) (whole now : List Token) (parts : Parts) : Type 0 where
  pub found : Members
  pub start : List Token
  pub begins : whole ≡ Token.begin_object ∷ start
  pub goes : (all : Members) → AreMembersAt now found all [] → AreMembersAt start no_members all []
  pub are : AreParts guess found parts

pub parts-start : (guess : Guess) (whole now : List Token) (parts : Parts) → whole ≡ Token.begin_object ∷ now → AreNone parts
    → AreMembersTo guess whole now parts
parts-start guess whole now parts begins none = record {
  found = no_members;
  start = now;
  begins = begins;
  goes = λ all is. is;
  are = record {
    facts = subst (λ o. IsMember (IsFactsPart guess) (codes "facts") no_members o) (sym none.facts) refl;
    format = subst (λ o. IsMember IsFormatPart (codes "format") no_members o) (sym none.format) refl;
    outcomes = subst (λ o. IsMember (IsOutcomesPart guess) (codes "outcomes") no_members o) (sym none.outcomes) refl;
    spec = subst (λ b. IsNoted (IsSpecPart guess) (codes "spec") no_members b) (sym none.spec) refl;
    count =
        let a : one_if parts.facts ≡ 0 = ap one_if none.facts in
        let b : one_if parts.format ≡ 0 = ap one_if none.format in
        let c : one_if parts.outcomes ≡ 0 = ap one_if none.outcomes in
        let e : one_where parts.spec ≡ 0 = ap one_where none.spec in
        omega (arith, a, b, c, e);
  };
}

pub parts-more : (guess : Guess) (whole now at left : List Token) (name : List ℕ) (old new : Parts) → read_key now ≡ Some (Some name, at)
    → Takes guess name at left old new → AreMembersTo guess whole now old → AreMembersTo guess whole left new
parts-more guess whole now at left name old new key (d, is, adds) h = record {
  found = put name d h.found;
  start = h.start;
  begins = h.begins;
  goes = λ all are. h.goes all (members-more now at left [] name d h.found all key is are);
  are = adds h.found h.are;
}

pub parts-end : (guess : Guess) (whole now left : List Token) (parts : Parts) → read_key now ≡ Some (None, left) → left ≡ []
    → AreMembersTo guess whole now parts → AreAllParts guess whole parts
parts-end guess whole now left parts key none h =
    let end : read_key now ≡ Some (None, []) = key ∙ ap (λ ts. Some (None, ts)) none in
    (h.found, object-at whole h.start [] h.found h.begins (h.goes h.found (members-end now [] h.found end)), h.are)

-- ---- the book

abbrev facts_with : Items → List ℕ → FactParts
facts_with facts text = record { facts = facts; text = text }

abbrev runs_with : Items → Items → List ℕ → RunParts
runs_with facts outcomes text = record { facts = facts; outcomes = outcomes; text = text }

abbrev contents : SpecFile → FactSet → Contents
contents file facts = record { file = file; facts = facts }

three-parts : (found : Members) (facts : Items) (text : List ℕ) → count_of found ≡ 3 → items_at (codes "facts") (object found) ≡ Some facts
    → text_at (codes "spec") (object found) ≡ Some text → fact_parts (object found) ≡ Some (facts_with facts text)
three-parts found facts text count items texts =
    ap (λ n. cond (n == 3)
    (option_and_then (λ fs. option_map (facts_with fs) (text_at (codes "spec") (object found))) (items_at (codes "facts") (object found))) None) count
    ∙ ap (option_and_then (λ fs. option_map (facts_with fs) (text_at (codes "spec") (object found)))) items
    ∙ ap (option_map (facts_with facts)) texts

four-parts : (found : Members) (facts outcomes : Items) (text : List ℕ) → count_of found ≡ 4 → items_at (codes "facts") (object found) ≡ Some facts
    → items_at (codes "outcomes") (object found) ≡ Some outcomes → text_at (codes "spec") (object found) ≡ Some text
    → run_parts (object found) ≡ Some (runs_with facts outcomes text)
four-parts found facts outcomes text count items others texts =
    ap (λ n. cond (n == 4)
    (option_and_then (λ fs. option_and_then (λ os. option_map (runs_with fs os) (text_at (codes "spec") (object found)))
    (items_at (codes "outcomes") (object found))) (items_at (codes "facts") (object found))) None) count
    ∙ ap (option_and_then (λ fs. option_and_then (λ os. option_map (runs_with fs os) (text_at (codes "spec") (object found)))
    (items_at (codes "outcomes") (object found)))) items
    ∙ ap (option_and_then (λ os. option_map (runs_with facts os) (text_at (codes "spec") (object found)))) others
    ∙ ap (option_map (runs_with facts outcomes)) texts

-- the items of the array that a member is
items-of : (name : List ℕ) (found : Members) (d : Data) (ds : Items) → get_member name found ≡ Some d → d ≡ array ds
    → items_at name (object found) ≡ Some ds
items-of name found d ds at is = ap (option_and_then as_array) at ∙ ap as_array is

-- the text that a member is
text-of : (name : List ℕ) (found : Members) (d : Data) (text : List ℕ) → get_member name found ≡ Some d → as_str d ≡ Some text
    → text_at name (object found) ≡ Some text
text-of name found d text at is = ap (option_and_then as_str) at ∙ is

module _ (guess : Guess) (found : Members) (spec : IsGuess guess) (book : Contents) where
  each-value : (built : Building) → count_of found ≡ 3 → book ≡ contents guess.spec built.facts
      → IsMember (IsFactsPart guess) (codes "facts") found (Some (Each built)) → IsMember IsFormatPart (codes "format") found (Some 1)
      → IsNoted (IsSpecPart guess) (codes "spec") found true → IsBookValue (object found) (Ok book)
  each-value built count is (d, at, (ds, entries, items, are, all)) (f, there, n) (s, named, text) =
      inl (
        1,
        ap (option_and_then whole_in) there ∙ n,
        inl (
          facts_with ds (string_bytes guess.text),
          three-parts found ds (string_bytes guess.text) count (items-of (codes "facts") found d ds at items)
              (text-of (codes "spec") found s (string_bytes guess.text) named text),
          inl (guess.spec, spec, inl (entries, are, λ i. Ok ((is ∙ ap (contents guess.spec) all) i))),
        ),
      )

  run-value : (runs : Vec Run Global) (outcomes : List Told) → count_of found ≡ 4 → length outcomes ≡ guess.outcomes
      → book ≡ contents guess.spec (facts_in outcomes runs.items)
      → IsMember (IsFactsPart guess) (codes "facts") found (Some (Runs runs)) → IsMember IsFormatPart (codes "format") found (Some 2)
      → IsMember (IsOutcomesPart guess) (codes "outcomes") found (Some outcomes) → IsNoted (IsSpecPart guess) (codes "spec") found true
      → IsBookValue (object found) (Ok book)
  run-value runs outcomes count size is (d, at, (ds, items, are)) (f, there, n) (o, stand, (os, others, told)) (s, named, text) =
      inl (
        2,
        ap (option_and_then whole_in) there ∙ n,
        inl (
          runs_with ds os (string_bytes guess.text),
          four-parts found ds os (string_bytes guess.text) count (items-of (codes "facts") found d ds at items)
              (items-of (codes "outcomes") found o os stand others) (text-of (codes "spec") found s (string_bytes guess.text) named text),
          inl (
            guess.spec,
            spec,
            inl (
              outcomes,
              told,
              inl (runs.items, subst (λ m. AreRunsOf guess.spec.run m ds (Ok runs.items)) (sym size) are, λ i. Ok (is i)),
            ),
          ),
        ),
      )

-- the book of facts one by one
pub facts-value : (guess : Guess) (found : Members) (built : Building) (book : Contents) → IsGuess guess
    → AreParts guess found (record { facts = Some (Each built); format = Some 1; outcomes = None; spec = true })
    → book ≡ record { file = guess.spec; facts = built.facts } → IsBookValue (object found) (Ok book)
facts-value guess found built book spec h is = each-value guess found spec book built h.count is h.facts h.format h.spec

-- the book of runs
pub runs-value : (guess : Guess) (found : Members) (runs : Vec Run Global) (outcomes : List Told) (book : Contents) → IsGuess guess
    → AreParts guess found (record { facts = Some (Runs runs); format = Some 2; outcomes = Some outcomes; spec = true })
    → length outcomes ≡ guess.outcomes → book ≡ record { file = guess.spec; facts = facts_in outcomes runs.items }
    → IsBookValue (object found) (Ok book)
runs-value guess found runs outcomes book spec h size is =
    run-value guess found spec book runs outcomes h.count size is h.facts h.format h.outcomes h.spec

-- ---- what a book is made of

pub each-recordable : (guess : Guess) (built : Building) → (d : Data) × IsFactsPart guess (Each built) d → AllRecordable guess.spec.run built.facts
each-recordable guess built (d, (ds, entries, items, are, all)) =
    subst (AllRecordable guess.spec.run) (sym all) (facts-recordable guess.spec.run ds entries are)

module _ (guess : Guess) (outcomes : List Told) (runs : Vec Run Global) (size : length outcomes ≡ guess.outcomes) where
  sized : (ds : Items) → AreRunsOf guess.spec.run guess.outcomes ds (Ok runs.items) → AreRunsOf guess.spec.run (length outcomes) ds (Ok runs.items)
  sized ds are = subst (λ m. AreRunsOf guess.spec.run m ds (Ok runs.items)) (sym size) are

  pub runs-rising : (d : Data) × IsFactsPart guess (Runs runs) d → IsRising (firsts runs.items)
  runs-rising (d, (ds, items, are)) = read-rising guess.spec.run outcomes ds runs.items (sized ds are)

  pub runs-sound : (d : Data) × IsFactsPart guess (Runs runs) d → AllSound (length outcomes) runs.items
  runs-sound (d, (ds, items, are)) = read-sound guess.spec.run outcomes ds runs.items (sized ds are)

  pub runs-recordable : (d : Data) × IsFactsPart guess (Runs runs) d → (e : Data) × IsOutcomesPart guess outcomes e
      → EachRun (IsRecordableRun guess.spec.run outcomes) runs.items
  runs-recordable (d, (ds, items, are)) (e, (os, others, told)) =
      read-recordable guess.spec.run outcomes ds runs.items (sized ds are)
      (outcomes-told guess.spec.run [] os outcomes (All-nil (IsToldBy guess.spec.run)) told)

-- ---- steps of reading

pub none-there : {X : Type 0} (o : Option X) → is_some o ≡ false → o ≡ None
none-there None is = refl
none-there (Some x) is = absurd (cc)

pub format-part : (ts left : List Token) (d : Data) (o : Option ℕ) → IsValueAt member_depth ts d left → o ≡ option_and_then as_u64 (as_number d)
    → IfSome o (λ n. (e : Data) × IsValueAt member_depth ts e left × IsFormatPart n e)
format-part ts left d None at is = tt
format-part ts left d (Some n) at is = (d, at, sym is)

pub parts-shorter : (guess : Guess) (now at left : List Token) (name : List ℕ) (old new : Parts) → read_key now ≡ Some (Some name, at)
    → Takes guess name at left old new → length left < length now
parts-shorter guess now at left name old new key (d, is, adds) =
    let less = value-shorter member_depth at left d is in
    let lesser = read_key-shorter now (Some name) at key in
    omega (arith, less, lesser)

-- the book of a text by its parts
pub text-value : (guess : Guess) (text : List ℕ) (parts : Parts) (o : Option Contents) → AreAllParts guess (tokens text) parts
    → IfSome o (λ book. (found : Members) → AreParts guess found parts → IsBookValue (object found) (Ok book))
    → IfSome o (λ book. (d : Data) × (read text ≡ Some d) × IsBookValue d (Ok book))
text-value guess text parts None all is = tt
text-value guess text parts (Some book) (found, at, are) is = (object found, whole-read text (object found) at, is found are)

-- the book of bytes that are a text
pub bytes-value : (bytes text : List ℕ) (o : Option Contents) → length bytes ≤ MAX_TEXT → text ≡ bytes → IsUtf8 bytes
    → IfSome o (λ book. (d : Data) × (read text ≡ Some d) × IsBookValue d (Ok book)) → IfSome o (λ book. IsBookFile bytes (Ok book))
bytes-value bytes text None few same utf8 is = tt
bytes-value bytes text (Some book) few same utf8 (d, reads, value) = inl (few, inl (d, (utf8, ap read (sym same) ∙ reads), value))

-- the outcomes of a book that has them
pub outcomes-there : (guess : Guess) (parts : Parts) (outcomes : List Told) → parts.outcomes ≡ Some outcomes → (found : Members) × AreParts guess found parts
    → (d : Data) × IsOutcomesPart guess outcomes d
outcomes-there guess parts outcomes is (found, h) =
    let at = subst (λ o. IsMember (IsOutcomesPart guess) (codes "outcomes") found o) is h.outcomes in
    (at.0, at.2)

-- the facts of a book that has them
pub facts-there : (guess : Guess) (parts : Parts) (facts : Facts) → parts.facts ≡ Some facts → (found : Members) × AreParts guess found parts
    → (d : Data) × IsFactsPart guess facts d
facts-there guess parts facts is (found, h) =
    let at = subst (λ o. IsMember (IsFactsPart guess) (codes "facts") found o) is h.facts in
    (at.0, at.2)

-- parts that are these
abbrev AreThese : Parts → Option Facts → Option ℕ → Option (List Told) → Type 0
AreThese parts facts format outcomes =
    (parts.facts ≡ facts) × (parts.format ≡ format) × (parts.outcomes ≡ outcomes) × (parts.spec ≡ true)

these : (guess : Guess) (found : Members) (parts : Parts) (facts : Option Facts) (format : Option ℕ) (outcomes : Option (List Told))
    → AreThese parts facts format outcomes → AreParts guess found parts
    → AreParts guess found (record { facts = facts; format = format; outcomes = outcomes; spec = true })
these guess found parts facts format outcomes is h =
    subst (AreParts guess found) (λ i. record { facts = is.0 i; format = is.1 i; outcomes = is.2 i; spec = is.3 i }) h

pub facts-book : (guess : Guess) (parts : Parts) (built : Building) (o : Option Contents) → IsGuess guess → AreThese parts (Some (Each built)) (Some 1) None
    → IfSome o (λ book. (book.file ≡ guess.spec) × (book.facts ≡ built.facts))
    → IfSome o (λ book. (found : Members) → AreParts guess found parts → IsBookValue (object found) (Ok book))
facts-book guess parts built None spec is made = tt
facts-book guess parts built (Some book) spec is made = λ found h.
    facts-value guess found built book spec (these guess found parts (Some (Each built)) (Some 1) None is h)
    (λ i. record { file = made.0 i; facts = made.1 i })

pub runs-book : (guess : Guess) (parts : Parts) (runs : Vec Run Global) (outcomes : List Told) (o : Option Contents) → IsGuess guess
    → AreThese parts (Some (Runs runs)) (Some 2) (Some outcomes) → length outcomes ≡ guess.outcomes
    → IfSome o (λ book. (book.file ≡ guess.spec) × (book.facts ≡ facts_in outcomes runs.items))
    → IfSome o (λ book. (found : Members) → AreParts guess found parts → IsBookValue (object found) (Ok book))
runs-book guess parts runs outcomes None spec is size made = tt
runs-book guess parts runs outcomes (Some book) spec is size made = λ found h.
    runs-value guess found runs outcomes book spec (these guess found parts (Some (Runs runs)) (Some 2) (Some outcomes) is h) size
    (λ i. record { file = made.0 i; facts = made.1 i })
