use Rattle.std.proofs.Common.{◌≡◌, ◌++◌, drop, map}
use Rattle.json.specs.Tree.{items_tokens}
use Rattle.mw_model.specs.Spelling.{items_outline}
use Rattle.mw_model.specs.Trees.{items_of}
use Rattle.mw_model.specs.Trees.{id_json}
use Rattle.mw_packets_out.proofs.written.end_ids.Given as goal

-- what is written, with what is left, is the whole
abbrev pub invariant-loop-id : goal.invariant-loop-id
invariant-loop-id l =
    (l.out.tokens ++ items_tokens (items_outline (items_of (map id_json (drop l.id-index l.ids)))) ≡ l.initial.out.tokens ++ items_tokens (items_outline (items_of (map id_json l.ids))))
    × (l.out.before ≡ l.initial.out.before)
