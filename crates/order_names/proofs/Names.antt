-- Steps have names of their own, so that an order by names is one by numbers.
use Rattle.std.proofs.Common.{◌≡◌, ◌≢◌, refl, sym, ap, ◌∙◌, subst, ℕ, zero, suc, ◌<◌, ◌≤◌, ◌⊎◌, ⊎_elim, true, false, List, [], ◌∷◌, ◌++◌, length, map, take, get_or, All, Result, Ok, Err, arith}
use Rattle.std.proofs.lemmas.Bool.{false≢true, or_left, or_right}
use Rattle.std.proofs.lemmas.List.Folds.{list_any-append}
use Rattle.std.proofs.lemmas.Slice.Eq.{bytes_eq-Decides}
use Rattle.std.specs.Str.{bytes_eq}
use Rattle.std.specs.List.{AllZip}
use Rattle.std.specs.Result.{IfOk, IfErr}
use Rattle.spec_reader.specs.Tree.{StepTree, SessionTree}
use Rattle.spec_reader.specs.Names.{is_among, AreNew}
use Rattle.spec_reader.specs.Names as read
use Rattle.bound_specs.specs.Levels.{levelled_file}
use Rattle.bound_specs.specs.Spec.{SpecFile, IsReady, line_of}
use Rattle.bound_specs.specs.Lines.{step_names, orders_of}
use Rattle.bound_specs.specs.Binding.{session, declared, main_setup, made_file, shaped, written_file, IsFileAt}
use Rattle.binding_model.specs.Refusals.{each}
use Rattle.bound_specs.proofs.FileLemmas.{bind}
use Rattle.order_names.specs.declared.error.OrderError.{OrderError}
use Rattle.order_names.specs.declared.error.OrderError.TheVariants.{UnknownStep, Again, OutOfTurn, LeftOut, NoLine, NoMemory}
use Rattle.order_names.specs.Orders.{Name, name_of, IsStepNamed, IsRankOf, HasNoRank, StandsBefore, AreKnown, AreInTurn, IsFirstWrong, IsWrong, IsRefused}
use Rattle.order_names.specs.Steps.{IsRankOfLine, IsNoLine, IsSent, AreStepsInTurn, IsWrongLine}

-- ---- names of which none stands twice

among-left : (n : Name) (xs ys : List Name) → is_among n xs ≡ true → is_among n (xs ++ ys) ≡ true
among-left n xs ys e = list_any-append (bytes_eq n) xs ys ∙ or_left (is_among n xs) (is_among n ys) e

among-last : (n : Name) (xs : List Name) → is_among n (xs ++ n ∷ []) ≡ true
among-last n xs =
    list_any-append (bytes_eq n) xs (n ∷ [])
    ∙ or_right (is_among n xs) (is_among n (n ∷ [])) (or_left (bytes_eq n n) false ((bytes_eq-Decides n n).1 refl))

unlike : (before ns : List Name) → AreNew before ns → (b : Name) → is_among b before ≡ true → (k : ℕ) → k < length ns → get_or ns k [] ≢ b
unlike before [] h b e k lt = absurd (omega (arith, lt))
unlike before (n ∷ ns) h b e zero lt = λ same. false≢true (sym h.0 ∙ ap (λ m. is_among m before) same ∙ e)
unlike before (n ∷ ns) h b e (suc k) lt = unlike (before ++ n ∷ []) ns h.1 b (among-left b before (n ∷ []) e) k (omega (arith, lt))

apart : (before ns : List Name) → AreNew before ns → (k l : ℕ) → k < l → l < length ns → get_or ns l [] ≢ get_or ns k []
apart before [] h k l lt inside = absurd (omega (arith, inside))
apart before (n ∷ ns) h k zero lt inside = absurd (omega (arith, lt))
apart before (n ∷ ns) h zero (suc l) lt inside = unlike (before ++ n ∷ []) ns h.1 n (among-last n before) l (omega (arith, inside))
apart before (n ∷ ns) h (suc k) (suc l) lt inside = apart (before ++ n ∷ []) ns h.1 k l (omega (arith, lt)) (omega (arith, inside))

one-place : (ns : List Name) → AreNew [] ns → (k l : ℕ) → k < length ns → l < length ns → get_or ns k [] ≡ get_or ns l [] → k ≡ l
one-place ns h k l in_k in_l same =
    ⊎_elim (λ e. e)
    (⊎_elim (λ lt. absurd (apart [] ns h k l lt in_l (sym same))) (λ lt. absurd (apart [] ns h l k lt in_k same))) cases
  where
    cases : (k ≡ l) ⊎ ((k < l) ⊎ (l < k))
    cases = grind arith

-- ---- the names of a file's steps

same-names : (ss : List SessionTree) → step_names ss ≡ read.step_names ss
same-names [] = refl
same-names (s ∷ ss) = λ i. map (λ (t : StepTree). t.name) s.steps ++ same-names ss i

-- each step has a name of its own
abbrev pub HasOwnNames : SpecFile → Type 0
HasOwnNames file = (k l : ℕ) → k < length file.run.steps → l < length file.run.steps → name_of file k ≡ name_of file l → k ≡ l

pub names-own : (text : List ℕ) (file : SpecFile) → IsFileAt text file → IsReady file → HasOwnNames file
names-own text file is ready k l in_k in_l same =
    let tree = is.tree in
    let w = bind (written_file text tree) _ file is.is_bound in
    let a = bind (shaped (orders_of tree)) _ w.0 w.1.0 in
    let b = bind (declared main_setup [] tree.front.setups) _ w.0 a.1.1 in
    let main = b.0 in
    let c = bind (each (session main.0) tree.sessions) _ w.0 b.1.1 in
    let made : made_file text tree a.0 main.1 c.0 ≡ w.0 = cc (c.1.1) in
    let levelled : levelled_file file.asked w.0 ≡ file = cc (w.1.1) in
    let names : file.step_names ≡ read.step_names tree.sessions =
    ap (λ (f : SpecFile). f.step_names) (sym levelled) ∙ ap (λ (f : SpecFile). f.step_names) (sym made) ∙ same-names tree.sessions in
    let new : AreNew [] file.step_names = subst (AreNew []) (sym names) is.is_spec.keeps.names.of_steps in
    let many = ready.step_names in
    one-place file.step_names new k l (omega (arith, many, in_k)) (omega (arith, many, in_l)) same

-- ---- names and numbers, place by place

zip-long : (file : SpecFile) (names : List Name) (steps : List ℕ) → AllZip (IsStepNamed file) names steps → length steps ≡ length names
zip-long file [] [] z = refl
zip-long file [] (k ∷ ks) z = absurd z
zip-long file (n ∷ ns) [] z = absurd z
zip-long file (n ∷ ns) (k ∷ ks) z = ap suc (zip-long file ns ks z.1)

zip-at : (file : SpecFile) (names : List Name) (steps : List ℕ) → AllZip (IsStepNamed file) names steps → (p : ℕ) → p < length names
    → IsStepNamed file (get_or names p []) (get_or steps p 0)
zip-at file [] steps z p lt = absurd (omega (arith, lt))
zip-at file (n ∷ ns) [] z p lt = absurd z
zip-at file (n ∷ ns) (k ∷ ks) z zero lt = z.0
zip-at file (n ∷ ns) (k ∷ ks) z (suc p) lt = zip-at file ns ks z.1 p (omega (arith, lt))

zip-all : (file : SpecFile) (names : List Name) (steps : List ℕ) → AllZip (IsStepNamed file) names steps → All (λ k. k < length file.run.steps) steps
zip-all file names [] z p d lt = absurd (omega (arith, lt))
zip-all file [] (k ∷ ks) z p d lt = absurd z
zip-all file (n ∷ ns) (k ∷ ks) z zero d lt = z.0.known
zip-all file (n ∷ ns) (k ∷ ks) z (suc p) d lt = zip-all file ns ks z.1 p d (omega (arith, lt))

-- the first so many names are known
pub front-known : (file : SpecFile) (names : List Name) (n : ℕ) (steps : List ℕ) → n ≤ length names → AllZip (IsStepNamed file) (take n names) steps
    → AreKnown file names n
front-known file names zero steps le z p lt = absurd (omega (arith, lt))
front-known file [] (suc n) steps le z p lt = absurd (omega (arith, le))
front-known file (m ∷ ms) (suc n) [] le z p lt = absurd z
front-known file (m ∷ ms) (suc n) (k ∷ ks) le z zero lt = (k, z.0)
front-known file (m ∷ ms) (suc n) (k ∷ ks) le z (suc p) lt = front-known file ms n ks (omega (arith, le)) z.1 p (omega (arith, lt))

pub zip-one : (file : SpecFile) → HasOwnNames file → (names : List Name) (xs ys : List ℕ) → AllZip (IsStepNamed file) names xs → AllZip (IsStepNamed file) names ys
    → xs ≡ ys
zip-one file own [] [] [] a b = refl
zip-one file own [] [] (y ∷ ys) a b = absurd b
zip-one file own [] (x ∷ xs) ys a b = absurd a
zip-one file own (n ∷ ns) [] ys a b = absurd a
zip-one file own (n ∷ ns) (x ∷ xs) [] a b = absurd b
zip-one file own (n ∷ ns) (x ∷ xs) (y ∷ ys) a b =
    let head : x ≡ y = own x y a.0.known b.0.known (a.0.named ∙ sym b.0.named) in
    let tail : xs ≡ ys = zip-one file own ns xs ys a.1 b.1 in
    λ i. head i ∷ tail i

pub zip-push : (file : SpecFile) (names : List Name) (steps : List ℕ) (n : Name) (k : ℕ) → AllZip (IsStepNamed file) names steps → IsStepNamed file n k
    → AllZip (IsStepNamed file) (names ++ n ∷ []) (steps ++ k ∷ [])
zip-push file [] [] n k z h = (h, tt)
zip-push file [] (l ∷ ls) n k z h = absurd z
zip-push file (m ∷ ms) [] n k z h = absurd z
zip-push file (m ∷ ms) (l ∷ ls) n k z h = (z.0, zip-push file ms ls n k z.1 h)

-- ---- what is told of an order

-- the first name that no step has
pub unknown-told : (file : SpecFile) (names : List Name) (place : ℕ) → place < length names
    → ((k : ℕ) → IsStepNamed file (get_or names place []) k → ⊥) → HasNoRank file names
unknown-told file names place lt none r inside has = none (get_or (line_of file.run r) place 0) (zip-at file names (line_of file.run r) has place lt)

module _ (file : SpecFile) (own : HasOwnNames file) (names : List Name) (steps : List ℕ) (zip : AllZip (IsStepNamed file) names steps) where
  long : length steps ≡ length names
  long = zip-long file names steps zip

  pub all-known : AreKnown file names (length names)
  all-known p lt = (get_or steps p 0, zip-at file names steps zip p lt)

  pub steps-known : All (λ k. k < length file.run.steps) steps
  steps-known = zip-all file names steps zip

  pub rank-told : (r : ℕ) → IsRankOfLine file.run steps r → IsRankOf file names r
  rank-told r is = record {
    inside = is.inside;
    has = subst (AllZip (IsStepNamed file) names) (sym is.has) zip;
    least = λ lower lt o. is.least lower lt (zip-one file own names (line_of file.run lower) steps o zip);
  }

  pub none-told : IsNoLine file.run steps → HasNoRank file names
  none-told none r lt o = none r lt (zip-one file own names (line_of file.run r) steps o zip)

  sent-stands : (n k : ℕ) → n ≤ length names → IsSent steps n k → StandsBefore names n (name_of file k)
  sent-stands n k le (p, lt, same) =
      (p, lt, sym (zip-at file names steps zip p (omega (arith, le, lt))).named ∙ ap (name_of file) same)

  stands-sent : (n k : ℕ) → n ≤ length names → k < length file.run.steps → StandsBefore names n (name_of file k) → IsSent steps n k
  stands-sent n k le known (p, lt, same) =
      let at = zip-at file names steps zip p (omega (arith, le, lt)) in (p, lt, own (get_or steps p 0) k at.known known (at.named ∙ same))

  turns-told : (n : ℕ) → n ≤ length names → AreStepsInTurn file.run.steps steps n → AreInTurn file names n
  turns-told n le turns p lt =
      let t = turns p lt in
      let at = zip-at file names steps zip p (omega (arith, le, lt)) in
      let before : p ≤ length names = omega (arith, le, lt) in (
        get_or steps p 0,
        record {
          step = at;
          new = λ s. t.new (stands-sent p (get_or steps p 0) before at.known s);
          behind = λ earlier less same. sent-stands p earlier before (t.behind earlier less same);
        },
      )

  first-wrong : file.run.lines ≡ [] → (place : ℕ) → place < length steps → AreStepsInTurn file.run.steps steps place → IsFirstWrong file names place
  first-wrong words place lt turns =
      let same = long in
      let inside : place < length names = omega (arith, same, lt) in
      record { words = words; known = all-known; inside = inside; turns = turns-told place (omega (arith, inside)) turns }

  pub wrong-told : file.run.lines ≡ [] → (error : OrderError) → IsWrongLine file.run.steps steps error → IsWrong file names error
  wrong-told words (UnknownStep place) w = absurd w
  wrong-told words (Again place) w =
      let same = long in
      let lt = w.0 in
      let inside : place < length names = omega (arith, same, lt) in
      let at = zip-at file names steps zip place inside in
      let before = sent-stands place (get_or steps place 0) (omega (arith, inside)) w.2 in
      (first-wrong words place w.0 w.1, subst (StandsBefore names place) at.named before)
  wrong-told words (OutOfTurn place due) w =
      let same = long in
      let lt = w.0 in
      let inside : place < length names = omega (arith, same, lt) in
      let at = zip-at file names steps zip place inside in
      let less = w.2 in
      let known = at.known in (
        first-wrong words place w.0 w.1,
        (get_or steps place 0, at, w.2, w.3, λ s. w.4 (stands-sent place due (omega (arith, inside)) (omega (arith, less, known)) s)),
      )
  wrong-told words (LeftOut due) w =
      let same = long in (
        words,
        turns-told (length names) (omega arith) (subst (AreStepsInTurn file.run.steps steps) same w.0),
        w.1,
        λ s. w.2 (subst (λ n. IsSent steps n due) (sym same) (stands-sent (length names) due (omega arith) w.1 s)),
      )
  wrong-told words NoLine w = absurd w
  wrong-told words NoMemory w = absurd w

  -- what the code answers, where orders are all that keep sessions in turn, and where they are lines
  abbrev Told : Result ℕ OrderError → Type 0
  Told result = IfOk result (IsRankOf file names) × IfErr result (IsRefused file names)

  pub words-told : file.run.lines ≡ [] → (result : Result ℕ OrderError) → IfOk result (IsRankOfLine file.run steps)
      → IfErr result (IsWrongLine file.run.steps steps) → IfErr result (λ error. IsNoLine file.run steps) → Told result
  words-told words (Ok r) rank wrong none = (rank-told r rank, tt)
  words-told words (Err error) rank wrong none = (tt, (wrong-told words error wrong, λ ne. none-told none))

  pub lines-told : file.run.lines ≢ [] → (result : Result ℕ OrderError) → IfOk result (IsRankOfLine file.run steps) → IfErr result (λ error. error ≡ NoLine)
      → IfErr result (λ error. IsNoLine file.run steps) → Told result
  lines-told some (Ok r) rank wrong none = (rank-told r rank, tt)
  lines-told some (Err error) rank wrong none =
      (tt, (subst (IsWrong file names) (sym wrong) (some, all-known), λ ne. none-told none))
