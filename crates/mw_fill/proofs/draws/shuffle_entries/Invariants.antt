use Rattle.std.proofs.Common.{◌≡◌, ◌+◌, ◌-◌, ◌≤◌, length}
use Rattle.mw_fill.specs.Draws.{words_of, at_place, shuffled, shuffled_down}
use Rattle.mw_fill.proofs.draws.shuffle_entries.Given as goal

-- the exchanges that are left, with the words that are left, give the whole
abbrev pub invariant-loop-i : goal.invariant-loop-i
invariant-loop-i g l =
    (l.i ≤ length l.entries)
    × (l.words ≡ at_place l.initial.words (l.initial.words.word_pos + (length l.entries - 1 - (l.i - 1))))
    × (shuffled_down (words_of l.initial.words) (l.initial.words.word_pos + (length l.entries - 1 - (l.i - 1))) (l.i - 1) l.entries ≡ shuffled (words_of l.initial.words) l.initial.words.word_pos l.initial.entries)

abbrev pub decreases-loop-i : goal.decreases-loop-i
decreases-loop-i g l = l.i
