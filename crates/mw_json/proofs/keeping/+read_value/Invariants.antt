use Rattle.std.proofs.Common.{◌≡◌, ℕ, ◌+◌, ◌*◌, ◌≤◌, length}
use Rattle.json.specs.Json.{items, members, value, parse_map}
use Rattle.mw_model.specs.Json.{no_members}
use Rattle.mw_json.specs.Entries.{entries_view}
use Rattle.mw_json.specs.KeptReading.{kept_items, kept_members}
use Rattle.mw_json.proofs.KeptLoops.{items_before}
use Rattle.mw_json.proofs.keeping.+read_value.Given as goal

abbrev pub decreases-read_value : goal.decreases-read_value
decreases-read_value l = 2 * l.levels

abbrev pub decreases-read_items : goal.decreases-read_items
decreases-read_items l = 2 * l.levels + 1

abbrev pub decreases-read_members : goal.decreases-read_members
decreases-read_members l = 2 * l.levels + 1

abbrev pub invariant-read_items-items : goal.invariant-read_items-items
invariant-read_items-items l =
    (n : ℕ) × (length l.reader ≤ n)
    × (parse_map kept_items (items (value l.levels) (length l.initial.reader) l.initial.reader) ≡ parse_map (items_before l.found) (parse_map kept_items (items (value l.levels) n l.reader)))
    × (length l.reader ≤ length l.initial.reader)

abbrev pub decreases-read_items-items : goal.decreases-read_items-items
decreases-read_items-items l = length l.reader

abbrev pub invariant-read_members-members : goal.invariant-read_members-members
invariant-read_members-members l =
    (n : ℕ) × (length l.reader ≤ n)
    × (parse_map (λ ms. kept_members ms no_members) (members (value l.levels) (length l.initial.reader) l.initial.reader) ≡ parse_map (λ ms. kept_members ms (entries_view l.found.entries)) (members (value l.levels) n l.reader))
    × (length l.reader ≤ length l.initial.reader)

abbrev pub decreases-read_members-members : goal.decreases-read_members-members
decreases-read_members-members l = length l.reader
