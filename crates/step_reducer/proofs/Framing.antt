-- Frames and the worlds at their marks.
use Rattle.std.proofs.Common.{◌≡◌, refl, sym, ap, ◌∙◌, false, List, [], ◌∷◌, ◌++◌, length, reverse, arith, length-append}
use Rattle.std.proofs.lemmas.List.{reverse-append, length-reverse}
use Rattle.bound_specs.specs.Spec.{SpecFile}
use Rattle.machine_model.specs.World.{World}
use Rattle.known_worlds.specs.Known.{KnownRunning}
use Rattle.step_reducer.specs.declared.frame.Frame.{Frame}
use Rattle.step_reducer.specs.Framed.{Framed, framed, framed_each, stacked, standing}

-- one frame more, at a newer mark
each-push : (file : SpecFile) (fs : List Frame) (ws : List World) (f : Frame) (w : World) → length fs ≡ length ws
    → framed_each file (fs ++ f ∷ []) (ws ++ w ∷ []) ≡ framed_each file fs ws ++ framed f (record { file = file; world = w; spent = false }) ∷ []
each-push file [] [] f w e = refl
each-push file [] (v ∷ ws) f w e = absurd (omega (arith, e))
each-push file (g ∷ fs) [] f w e = absurd (omega (arith, e))
each-push file (g ∷ fs) (v ∷ ws) f w e = ap (λ rest. framed g (record { file = file; world = v; spent = false }) ∷ rest) (each-push file fs ws f w (omega (arith, e)))

-- the newest mark is the last one of those that are told the oldest first
newest-last : (w : World) (ws : List World) → reverse (w ∷ ws) ≡ reverse ws ++ w ∷ []
newest-last w ws = reverse-append (w ∷ []) ws

-- a mark more, and a frame with it
each-kept : (file : SpecFile) (fs : List Frame) (f : Frame) (w : World) (ws : List World) → length fs ≡ length ws
    → framed_each file (fs ++ f ∷ []) (reverse (w ∷ ws)) ≡ framed_each file fs (reverse ws) ++ framed f (record { file = file; world = w; spent = false }) ∷ []
each-kept file fs f w ws e =
    ap (framed_each file (fs ++ f ∷ [])) (newest-last w ws) ∙ each-push file fs (reverse ws) f w (omega (arith, e, length-reverse ws))

-- the topmost frame is kept below
pub frame-kept : (fs gs : List Frame) (f copy : Frame) (r s : KnownRunning) → length fs ≡ length r.marked → gs ≡ fs ++ copy ∷ [] → copy.block ≡ f.block
    → copy.swaps.items ≡ f.swaps.items → r.spent ≡ false → s ≡ record r { marked = r.world ∷ r.marked; level = false }
    → (stacked gs f s).below ≡ (stacked fs f r).below ++ (stacked fs f r).top ∷ []
frame-kept fs gs f copy r s count more block swaps whole marked =
    (λ k. framed_each (marked k).file (more k) (reverse (marked k).marked))
    ∙ each-kept r.file fs copy r.world r.marked count
    ∙ (λ k. framed_each r.file fs (reverse r.marked)
    ++ (let f : Framed = record { block = block k; swaps = swaps k; world = record { file = r.file; world = r.world; spent = sym whole k } } in f) ∷ [])

pub top-kept : (f : Frame) (r s : KnownRunning) → s ≡ record r { marked = r.world ∷ r.marked; level = false } → framed f (standing s) ≡ framed f (standing r)
top-kept f r s marked = ap (λ (t : KnownRunning). framed f (standing t)) marked

pub count-popped : (fs gs : List Frame) (g : Frame) (r s : KnownRunning) → length fs ≡ length r.marked → fs ≡ gs ++ g ∷ [] → r.marked ≡ s.world ∷ s.marked
    → length gs ≡ length s.marked
count-popped fs gs g r s count less marked =
    let one = ap (λ (xs : List Frame). length xs) less in
    let two = ap (λ (xs : List World). length xs) marked in
    omega (arith, count, one, two, length-append gs (g ∷ []))

-- and the other way
pub frame-popped : (fs gs : List Frame) (f g : Frame) (r s : KnownRunning) → length fs ≡ length r.marked → fs ≡ gs ++ g ∷ []
    → r.marked ≡ s.world ∷ s.marked → s.file ≡ r.file → s.spent ≡ false → (stacked fs f r).below ≡ (stacked gs g s).below ++ (stacked gs g s).top ∷ []
frame-popped fs gs f g r s count less marked file whole =
    (λ k. framed_each (sym file k) (less k) (reverse (marked k)))
    ∙ each-kept s.file gs g s.world s.marked (count-popped fs gs g r s count less marked)
    ∙ (λ k. framed_each s.file gs (reverse s.marked)
    ++ framed g (record { file = s.file; world = s.world; spent = sym whole k }) ∷ [])

pub count-kept : (fs gs : List Frame) (g : Frame) (r s : KnownRunning) → length fs ≡ length r.marked → gs ≡ fs ++ g ∷ []
    → s ≡ record r { marked = r.world ∷ r.marked; level = false } → length gs ≡ length s.marked
count-kept fs gs g r s count more marked =
    let one = ap (λ (xs : List Frame). length xs) more in
    let two = ap (λ (t : KnownRunning). length t.marked) marked in
    omega (arith, count, one, two, length-append fs (g ∷ []))

-- where the marks stay, so do the frames below
pub below-same : (fs : List Frame) (f g : Frame) (r s : KnownRunning) → s.file ≡ r.file → s.marked ≡ r.marked → (stacked fs g s).below ≡ (stacked fs f r).below
below-same fs f g r s file marked = λ k. framed_each (file k) fs (reverse (marked k))

pub count-same : (fs : List Frame) (r s : KnownRunning) → length fs ≡ length r.marked → s.marked ≡ r.marked → length fs ≡ length s.marked
count-same fs r s count marked = count ∙ ap (λ (ws : List World). length ws) (sym marked)
