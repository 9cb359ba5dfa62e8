-- The message in front of a word in front of the memory. Assumes nothing.
use Rattle.std.proofs.Common.{◌≡◌, ℕ, ◌≤◌, List, take, ap, ◌∙◌}
use Rattle.std.proofs.lemmas.List.{take-take}

pub front_of_front : (k n : ℕ) (message found xs : List ℕ) → k ≤ n → message ≡ take k found → found ≡ take n xs → message ≡ take k xs
front_of_front k n message found xs within is there = is ∙ ap (take k) there ∙ take-take k n xs within
