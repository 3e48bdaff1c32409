-- What is met by the orders of a sample is met as it is told.
use Rattle.std.proofs.Common.{◌≡◌, ◌↔◌, sym, subst, ℕ, List, [], ◌∷◌, All, map, Option, Some, None}
use Rattle.std.proofs.lemmas.List.Elements.{All-cons, All-head, All-nil, All-tail, All-weaker}
use Rattle.order_classes.specs.declared.rows.ClassRow.{ClassRow}
use Rattle.order_classes.specs.Looks.{one_row}
use Rattle.class_looks.specs.Seeing.{told_by}
use Rattle.class_rows.specs.declared.rows.Classed.{Classed}
use Rattle.asked_classes.specs.declared.expectations.AskedExpectation.{AskedExpectation}
use Rattle.wanted_classes.specs.declared.wanted.WantedSample.{WantedSample}
use Rattle.class_commands.specs.Classing.{IsMet, IsToldOf, seen_of, with_rank}

module _ (rs : List ℕ) (e : AskedExpectation) where
  abbrev Is : ClassRow → Type 0
  Is row = seen_of e.look row ≡ told_by (one_row e.values.items)

  there : (rows : List ClassRow) → All Is rows → All Is (map (with_rank rs) rows)
  there [] is = All-nil Is
  there (row ∷ rows) is = All-cons Is (with_rank rs row) (map (with_rank rs) rows) (All-head Is row rows is) (there rows (All-tail Is row rows is))

  back : (rows : List ClassRow) → All Is (map (with_rank rs) rows) → All Is rows
  back [] is = All-nil Is
  back (row ∷ rows) is =
      All-cons Is row rows (All-head Is (with_rank rs row) (map (with_rank rs) rows) is) (back rows (All-tail Is (with_rank rs row) (map (with_rank rs) rows) is))

module _ (rs : List ℕ) (x told : Classed) where
  met-same : (sample : Option WantedSample) → IsToldOf sample rs x told → (e : AskedExpectation) → IsMet x.rows.items e ↔ IsMet told.rows.items e
  met-same None is e = (λ m. subst (λ (c : Classed). IsMet c.rows.items e) (sym is) m, λ m. subst (λ (c : Classed). IsMet c.rows.items e) is m)
  met-same (Some sample) is e = (
    λ m. subst (λ rows. IsMet rows e) (sym is.2) (there rs e x.rows.items m),
    λ m. back rs e x.rows.items (subst (λ rows. IsMet rows e) is.2 m),
  )

  pub all-met : (sample : Option WantedSample) → IsToldOf sample rs x told → (es : List AskedExpectation) → All (IsMet told.rows.items) es ↔ All (IsMet x.rows.items) es
  all-met sample is es = (
    All-weaker (IsMet told.rows.items) (IsMet x.rows.items) (λ e. (met-same sample is e).1) es,
    All-weaker (IsMet x.rows.items) (IsMet told.rows.items) (λ e. (met-same sample is e).0) es,
  )
