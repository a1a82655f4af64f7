use Rattle.std.proofs.Common.{◌≡◌, ◌≤◌, ◌+◌, drop, length, map}
use Rattle.mw_protocol.specs.HintList.{hinted_all}
use Rattle.mw_records.specs.Records.{hint_view}
use Rattle.mw_hints.proofs.book.HintBook.add_grown.Given as goal

-- with the records that are left it comes to what all come to, and there is room for them
abbrev pub invariant-loop-entry : goal.invariant-loop-entry
invariant-loop-entry l = record {
  hints : hinted_all l.self.hints (map hint_view (drop l.entry-index l.fresh)) ≡ hinted_all l.fn.self.hints (map hint_view l.fresh);
  space : length l.fresh ≤ l.self.space + l.entry-index;
  buyer_space : length l.fresh ≤ l.self.buyer_space + l.entry-index;
}
