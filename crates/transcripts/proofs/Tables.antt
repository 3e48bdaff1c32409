-- Tests of every number below a limit, which are computed.
use Rattle.std.specs.Prelude.{◌≡◌, ℕ, ◌<◌, Bool, true}
use Rattle.std.proofs.lemmas.Bool.{agree_below, agree_below_at}

abbrev pub all_below : ℕ → (ℕ → Bool) → Bool
all_below n test = agree_below test (λ x. true) n

pub passes : (n : ℕ) (test : ℕ → Bool) → all_below n test ≡ true → (x : ℕ) → x < n → test x ≡ true
passes n test e x h = agree_below_at test (λ x. true) n x e h

pub passes_both : (n : ℕ) (test : ℕ → ℕ → Bool) → all_below n (λ x. all_below n (test x)) ≡ true → (x y : ℕ) → x < n → y < n → test x y ≡ true
passes_both n test e x y p q = passes n (test x) (passes n (λ x. all_below n (test x)) e x p) y q
