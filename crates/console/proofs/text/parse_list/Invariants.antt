use Rattle.std.proofs.Common.{◌≡◌, ◌≤◌, [], vec_items, vec_len}
use Rattle.console.specs.Text.{list_on, to_come}
use Rattle.console.proofs.text.parse_list.Given as goal

abbrev pub invariant-loop-word : goal.invariant-loop-word
invariant-loop-word l =
    (vec_len l.bytes ≤ 2000000) × (list_on (vec_items l.bytes) (to_come l.word-iterator) ≡ list_on [] (to_come l.initial.word-iterator))
