use Rattle.std.proofs.Common.{◌+◌, ◌++◌, ◌∷◌, ◌<◌, sym, subst, length, map, take, arith, Ok, Bor, List, [], get_or, ℕ}
use Rattle.std.proofs.lemmas.List.{get_or-map, length-map}
use Rattle.bound_specs.specs.Spec.{SpecFile}
use Rattle.fact_books.specs.Entries.{Told}
use Rattle.book_commands.specs.Judging.{AreFilesKept, IsFileKept}
use Rattle.book_commands.proofs.JudgeLemmas.{file-more, kept-reported}
use Rattle.book_commands.proofs.judging.reports_of_files.Goals as goal

-- one book more
pub loop-place-preserved : goal.loop-place-preserved
loop-place-preserved g c =
    let files = g.O.Opener.bytes c.args.opener.now in
    let paths = map (λ (p : Bor (List ℕ)). p.now) c.args.paths.now in
    let place = c.loop-place.place in
    let next = c.in-Ok.next in
    let count = length-map c.args.paths.now (λ (p : Bor (List ℕ)). p.now) in
    let lt : place < length paths = omega (arith, c.loop-place-test.true, count) in
    let is : IsFileKept (files (get_or paths place [])) (Ok next) =
    subst (λ p. IsFileKept (files p) (Ok next))
    (sym {A = List ℕ} (get_or-map (λ (p : Bor (List ℕ)). p.now) c.args.paths.now place _ _ c.loop-place-test.true))
    c.in-Ok.ensures in
    let more : AreFilesKept files (take (place + 1) paths) (c.loop-place.specs.items ++ next.spec ∷ []) (c.loop-place.reports.items ++ next.report ∷ []) =
    file-more files paths place c.loop-place.specs.items c.loop-place.reports.items next.spec next.report lt c.loop-place.invariant.0 is in
    let pushed : AreFilesKept files (take (place + 1) paths) c.push.new.self.items c.push-in-loop-place.new.self.items =
    subst (λ specs. AreFilesKept files (take (place + 1) paths) specs c.push-in-loop-place.new.self.items) (sym {A = List SpecFile} c.in-Ok-push.ensures.items)
    (subst (λ reports. AreFilesKept files (take (place + 1) paths) (c.loop-place.specs.items ++ next.spec ∷ []) reports) (sym {A = List (List Told)} c.in-Ok-push-2.ensures.items) more) in
    (pushed, (c.push-in-loop-place.new.self.items, kept-reported files (take (place + 1) paths) c.push.new.self.items c.push-in-loop-place.new.self.items pushed))
