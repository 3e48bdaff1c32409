use Rattle.std.proofs.Common.{◌≡◌, ◌≤◌, ℕ, None, get_or, vec_capacity, vec_len}
use Rattle.book_commands.proofs.texts.Texts.new.Given as goal

-- so many places are made, and each is empty
abbrev pub invariant-loop : goal.invariant-loop
invariant-loop l = (vec_len l.places ≡ l.counter) × (l.count ≤ vec_capacity l.places) × ((k : ℕ) → get_or l.places.items k None ≡ None)
