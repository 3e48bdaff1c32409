-- What is whole is told whole: where no select asked for no lock nothing is left out.
use Rattle.std.proofs.Common.{◌≡◌, refl, sym, ap, ◌∙◌, subst, List, [], ◌∷◌, cond, map, get_or, ⊎_elim}
use Rattle.lock_queues.specs.Reasons.{Among}
use Rattle.lock_modes.specs.Rows.{Rows'}
use Rattle.machine_model.specs.World.{World, session_at}
use Rattle.machine_model.specs.declared.status.Status.{Status}
use Rattle.serial_history.specs.Serial.{Did, Transaction, History, Told, SerialRun, Repeats, AllLocked, CommitsLocked, Anywhere, AtSerializable, IsWhole, IsSerializable}
use Rattle.serial_history.specs.Serial.{locked_work, locked_commit}
use Rattle.serial_history.proofs.SerialLine.{Heir}

-- ---- nothing is left out of what is whole

whole-work : (ds : List Did) → AllLocked Anywhere ds → locked_work ds ≡ ds
whole-work [] h = refl
whole-work (d ∷ ds) h = ap (λ b. cond b (locked_work ds) (d ∷ locked_work ds)) (h.0 tt) ∙ ap (λ xs. d ∷ xs) (whole-work ds h.1)

whole-commits : (ts : List Transaction) → CommitsLocked Anywhere ts → map locked_commit ts ≡ ts
whole-commits [] h = refl
whole-commits (t ∷ ts) h = λ i. record { session = t.session; work = whole-work t.work h.0 i } ∷ whole-commits ts h.1 i

pub whole-told : (start : Rows') (w : World) (h : History) → IsWhole h → Heir start w h → Told start w h
whole-told start w h x y = record {
  serial = subst (λ ts. SerialRun start ts w.rows) (whole-commits h.commits x.commits) y.serial;
  each = λ c. subst (Repeats w.rows (session_at w c)) (whole-work (get_or h.works c []) (x.works c)) (y.each c);
  count = y.count;
}

-- ---- nor of a transaction at SERIALIZABLE

pub kept-work : (ds : List Did) → AllLocked AtSerializable ds → IsSerializable ds → locked_work ds ≡ ds
kept-work [] h s = refl
kept-work (d ∷ ds) h s = ap (λ b. cond b (locked_work ds) (d ∷ locked_work ds)) (h.0 s.0) ∙ ap (λ xs. d ∷ xs) (kept-work ds h.1 s.1)

pub among-locked : (At : Status → Type 0) (t : Transaction) (ts : List Transaction) → CommitsLocked At ts → Among t ts → AllLocked At t.work
among-locked At t [] h a = absurd a
among-locked At t (u ∷ us) h a = ⊎_elim (λ e. subst (λ (v : Transaction). AllLocked At v.work) (sym e) h.0) (λ b. among-locked At t us h.1 b) a
