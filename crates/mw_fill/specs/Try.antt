-- One try: shuffled copies and locations, the fill, and fillers for what is left.
use Rattle.std.specs.Prelude.{ℕ, ◌≡◌, List, [], Option, Some, None, map}
use Rattle.mw_multi.specs.Joint.{Joint}
use Rattle.mw_multi.specs.Placement.{Put, what_stands}
use Rattle.mw_fill.specs.Draws.{start_of, words_of, shuffled, place_after}
use Rattle.mw_fill.specs.declared.group.Group.TheVariants.{Asked, Helping, Filling}
use Rattle.mw_fill.specs.Copies.{ItemCopy, copies_of}
use Rattle.mw_fill.specs.Openings.{Opening, openings_of, regular, all_kinds}
use Rattle.mw_fill.specs.Fill.{Outcome, filled, stuck, FillRun, placed_anywhere}

-- ---- shuffles

-- the copies that rules ask for, the locations with an id, the useful copies, and the filler and
-- trap copies
pub record Lists : Type 0 where
  pub asked : List ItemCopy
  pub openings : List Opening
  pub helping : List ItemCopy
  pub filling : List ItemCopy

-- those of a joint, in the order of its tables
abbrev pub stock_of : Joint → Lists
stock_of joint = record {
  asked = copies_of Asked joint;
  openings = openings_of joint;
  helping = copies_of Helping joint;
  filling = copies_of Filling joint;
}

-- where the words for the locations begin, after those for the copies that rules ask for
abbrev pub openings_begin : Lists → ℕ
openings_begin stock = place_after 0 stock.asked

-- where those for the useful copies begin
abbrev pub helping_begin : Lists → ℕ
helping_begin stock = place_after (openings_begin stock) stock.openings

-- where those for the filler and trap copies begin
abbrev pub filling_begin : Lists → ℕ
filling_begin stock = place_after (helping_begin stock) stock.helping

-- the four lists, shuffled one after another
abbrev pub shuffled_lists : Lists → (ℕ → ℕ) → Lists
shuffled_lists stock words = record {
  asked = shuffled words 0 stock.asked;
  openings = shuffled words (openings_begin stock) stock.openings;
  helping = shuffled words (helping_begin stock) stock.helping;
  filling = shuffled words (filling_begin stock) stock.filling;
}

-- those of a joint in the order that a stream of a seed gives
abbrev pub lists_of : Joint → ℕ → ℕ → Lists
lists_of joint seed stream = shuffled_lists (stock_of joint) (words_of (start_of seed stream))

-- ---- the fill

abbrev pub and_then : Outcome → (List Put → Outcome) → Outcome
and_then (filled puts) next = next puts
and_then (stuck slot item) next = stuck slot item

-- useful copies at priority and then default locations; filler and trap copies at excluded ones
-- first
abbrev pub the_rest : Lists → List Put → Outcome
the_rest lists puts =
    and_then (placed_anywhere (regular lists.openings) lists.helping puts)
    (placed_anywhere (all_kinds lists.openings) lists.filling)

-- what a try comes to: first the copies that rules ask for, then the rest
abbrev pub IsOutcome : Joint → Lists → Outcome → Type 0
IsOutcome joint lists out =
    (first : Outcome) × FillRun joint (regular lists.openings) lists.asked [] first
    × (out ≡ and_then first (the_rest lists))

-- ---- the placement

-- the location's own slot's filler item there
abbrev pub filler_at : Opening → Put
filler_at opening = record { place = opening.place; receiver = opening.slot; item = opening.filler }

-- what was put there, or else the filler
abbrev pub or_filler : Option Put → Opening → Put
or_filler None opening = filler_at opening
or_filler (Some put) opening = put

abbrev pub end_put : List Put → Opening → Put
end_put puts opening = or_filler (what_stands puts opening.place) opening

-- something at each location with an id, by slot and table order
abbrev pub placement_of : Joint → List Put → List Put
placement_of joint puts = map (end_put puts) (openings_of joint)

-- the try with this number gives the placement
abbrev pub IsFilled : Joint → ℕ → ℕ → List Put → Type 0
IsFilled joint seed stream placement =
    (puts : List Put) × IsOutcome joint (lists_of joint seed stream) (filled puts)
    × (placement ≡ placement_of joint puts)

-- the try with this number ends at a copy that finds no location: its slot and its item
abbrev pub IsStuck : Joint → ℕ → ℕ → ℕ → ℕ → Type 0
IsStuck joint seed stream slot item = IsOutcome joint (lists_of joint seed stream) (stuck slot item)
