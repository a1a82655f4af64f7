use Rattle.std.proofs.Common.{◌≡◌, ◌++◌, drop, map}
use Rattle.json.specs.Tree.{items_tokens}
use Rattle.mw_model.specs.Spelling.{items_outline}
use Rattle.mw_model.specs.Trees.{items_of}
use Rattle.mw_protocol.specs.Messages.{item_json}
use Rattle.mw_packets_out.proofs.written.end_items.Given as goal

-- what is written, with what is left, is the whole
abbrev pub invariant-loop-item : goal.invariant-loop-item
invariant-loop-item l =
    (l.out.tokens ++ items_tokens (items_outline (items_of (map item_json (drop l.item-index l.items)))) ≡ l.initial.out.tokens ++ items_tokens (items_outline (items_of (map item_json l.items))))
    × (l.out.before ≡ l.initial.out.before)
