-- What is shown of a line is true of the worlds that it begins with and ends in.
use Rattle.std.proofs.Common.{◌≡◌, refl, ap, subst, ℕ, suc, List}
use Rattle.std.proofs.Common.{[], ◌∷◌, map}
use Rattle.std.proofs.Common.{Option, Some, None}
use Rattle.binding_model.specs.declared.tables.Table.{Table}
use Rattle.machine_model.specs.Start.{Start, Started, SetupFailed, SessionSetupFailed, SessionSetupWaits, start}
use Rattle.machine_model.specs.World.{World, send_all}
use Rattle.machine_model.proofs.Owned.{lines-sound}
use Rattle.machine_model.proofs.Typed.{worlds-fit}
use Rattle.line_moments.specs.Laws.{ShownIsTrue, FilesAreShown}
use Rattle.line_moments.specs.declared.shown.Left.{Left}
use Rattle.line_moments.specs.Left.{left_from}
use Rattle.line_moments.specs.declared.shown.Shown.{Shown}
use Rattle.line_moments.specs.Left.{shown_from, IsShown}
use Rattle.line_moments.proofs.Leaving.{left-in}
use Rattle.line_moments.proofs.Stands.{standings-exact, begun-are}

-- ---- a line of a spec

pub shown-true : ShownIsTrue
shown-true tables spec line bound fits = ((shows (start spec) refl, starts (start spec) refl), (λ x e. true-of (start spec) refl x e))
  where
    shows : (s : Start) → start spec ≡ s
        → ((x : Shown) × ((let o : Option Shown = elim s [ Started w ↦ Some (shown_from tables spec w line) | _ ↦ None ] in o) ≡ Some x))
        → (w : World) × (s ≡ Started w)
    shows (Started w) is x = (w, refl)
    shows (SetupFailed n) is x = absurd (let k : None ≡ Some x.0 = x.1 in cc)
    shows (SessionSetupFailed n) is x = absurd (let k : None ≡ Some x.0 = x.1 in cc)
    shows (SessionSetupWaits n) is x = absurd (let k : None ≡ Some x.0 = x.1 in cc)

    starts : (s : Start) → start spec ≡ s → ((w : World) × (s ≡ Started w))
        → (x : Shown) × ((let o : Option Shown = elim s [ Started w ↦ Some (shown_from tables spec w line) | _ ↦ None ] in o) ≡ Some x)
    starts (Started w) is x = (shown_from tables spec w line, refl)
    starts (SetupFailed n) is x = absurd (let k : SetupFailed n ≡ Started x.0 = x.1 in cc)
    starts (SessionSetupFailed n) is x = absurd (let k : SessionSetupFailed n ≡ Started x.0 = x.1 in cc)
    starts (SessionSetupWaits n) is x = absurd (let k : SessionSetupWaits n ≡ Started x.0 = x.1 in cc)

    made : (w : World) → start spec ≡ Started w → IsShown tables spec line (shown_from tables spec w line)
    made w e =
        record {
          world = w;
          starts = e;
          begun = begun-are spec.sessions w;
          first = left-in tables w (worlds-fit tables spec w [] fits e).rows;
          moments = refl;
          left = left-in tables (send_all spec.steps w line) (worlds-fit tables spec w line fits e).rows;
          standings = standings-exact spec.sessions (send_all spec.steps w line) (lines-sound spec w line bound e).0.steady;
        }

    true-of : (s : Start) → start spec ≡ s → (x : Shown)
        → (let o : Option Shown = elim s [ Started w ↦ Some (shown_from tables spec w line) | _ ↦ None ] in o) ≡ Some x → IsShown tables spec line x
    true-of (Started w) is x k =
        let same : shown_from tables spec w line ≡ x = (let y : Some (shown_from tables spec w line) ≡ Some x = k in cc) in
        subst (IsShown tables spec line) same (made w is)
    true-of (SetupFailed n) is x k = absurd (let y : None ≡ Some x = k in cc)
    true-of (SessionSetupFailed n) is x k = absurd (let y : None ≡ Some x = k in cc)
    true-of (SessionSetupWaits n) is x k = absurd (let y : None ≡ Some x = k in cc)

-- ---- a line of a spec file

from-tables : (tables : List Table) (k : ℕ) (w : World) → map (λ (l : Left). l.table) (left_from k tables w) ≡ tables
from-tables [] k w = refl
from-tables (t ∷ ts) k w = ap (λ x. t ∷ x) (from-tables ts (suc k) w)

abbrev TellsTables : List Table → Shown → Type 0
TellsTables tables x = (map (λ (l : Left). l.table) x.first ≡ tables) × (map (λ (l : Left). l.table) x.left ≡ tables)

pub files-shown : FilesAreShown
files-shown text file line x of bound fits = (
  (shown-true of.tables file.run line bound fits).1 x of.shows,
  (tells (start file.run) of.shows).0,
  (tells (start file.run) of.shows).1,
)
  where
    tells : (s : Start) → (let o : Option Shown = elim s [ Started w ↦ Some (shown_from of.tables file.run w line) | _ ↦ None ] in o) ≡ Some x
        → TellsTables of.tables x
    tells (Started w) k =
        let same : shown_from of.tables file.run w line ≡ x = (let y : Some (shown_from of.tables file.run w line) ≡ Some x = k in cc) in
        subst (TellsTables of.tables) same (from-tables of.tables 0 w, from-tables of.tables 0 (send_all file.run.steps w line))
    tells (SetupFailed n) k = absurd (let y : None ≡ Some x = k in cc)
    tells (SessionSetupFailed n) k = absurd (let y : None ≡ Some x = k in cc)
    tells (SessionSetupWaits n) k = absurd (let y : None ≡ Some x = k in cc)
