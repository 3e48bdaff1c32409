use Rattle.std.proofs.Common.{◌≡◌, refl, sym, ap, subst, ◌∙◌, Some, [], ◌∷◌, ◌++◌}
use Rattle.std.specs.Prelude.{slice_get, is_ok}
use Rattle.schedule_counts.specs.Searching.{Searched, searched, IsShownAt}
use Rattle.schedule_counts.proofs.Searches.{note-is, note-kept}
use Rattle.schedule_counts.proofs.search.Search.note.Goals as goal
use Rattle.schedule_counts.proofs.search.Search.note.Goals.{in-Ok, in-Err}
use Rattle.schedule_counts.specs.declared.search.Noted.{Noted}

pub invariant_of-self : goal.invariant_of-self
invariant_of-self c =
    let s = c.self.inside in
    let there : slice_get s.machine.seen c.args.world ≡ Some s.machine.world = subst (λ (v : Searched). slice_get v.worlds c.args.world ≡ Some v.point.world) (sym c.self.view_is) c.requires.known in
    note-kept s.machine s.tables.now s.kind s.place s.marks.items s.noted.items s.shown c.self.invariant _ (is_ok c.push.result) c.push.new.self.items c.push.ensures.items refl there
    (subst (λ (v : Searched). IsShownAt v c.args.shows) (sym c.self.view_is) c.requires.shows)

pub returns-clause-noted : goal.returns-clause-noted
returns-clause-noted c =
    let s = c.self.inside in
    let there : slice_get s.machine.seen c.args.world ≡ Some s.machine.world = subst (λ (v : Searched). slice_get v.worlds c.args.world ≡ Some v.point.world) (sym c.self.view_is) c.requires.known in
    let n : Noted = record { world = c.args.world; next = s.place.next; shows = c.args.shows } in
    elim c.match-push.branch [
      | in-Ok w ↦ rw w.result-is
          (ap (λ ns. searched s.machine s.tables.now s.kind s.place s.marks.items ns s.shown) w.in-Ok.ensures.items ∙ note-is s.machine s.tables.now s.kind s.place s.marks.items s.noted.items s.shown n refl there
          ∙ ap (λ (v : Searched). record v { seen = v.seen ++ v.point ∷ [] }) c.self.view_is)
      | in-Err w ↦ rw w.result-is tt
    ]
