-- A ReceivedItems has few items.
use Rattle.std.proofs.Common.{◌≡◌, ◌<◌, ◌≤◌, ◌^◌, List, Ok, codes, length, arith}
use Rattle.std.specs.Prelude.{IfOk, All}
use Rattle.std.proofs.lemmas.Result.{IfOk-at_ok, IfOk-weaker}
use Rattle.mw_model.specs.Items.{NetItem}
use Rattle.mw_model.specs.Json.{Json, Members}
use Rattle.mw_json.specs.Grammar.{field_at}
use Rattle.mw_json.specs.Readers.{list_of_at}
use Rattle.mw_json.proofs.Kept.{list_kept}
use Rattle.mw_json.proofs.Passing.{always, in_field}
use Rattle.mw_client.specs.News.{net_item_at, net_items_at}

abbrev AreFew : List NetItem → Type 0
AreFew items = length items < 2 ^ 32

abbrev Any : NetItem → Type 0
Any item = Unit {0}

abbrev UpTo : List NetItem → Type 0
UpTo items = (length items ≤ 4294967295) × All Any items

few_items : (j : Json) → IfOk (net_items_at j) AreFew
unfolding net_items_at
few_items j =
    IfOk-weaker (list_of_at 4294967295 net_item_at j) UpTo AreFew (λ items k. omega (arith, k.0)) (list_kept Any net_item_at (λ i. always (net_item_at i) tt) 4294967295 j)

pub few_kept : (items : List NetItem) (ms : Members) → field_at (codes "items") net_items_at ms ≡ Ok items → length items < 2 ^ 32
few_kept items ms e = IfOk-at_ok AreFew e (in_field AreFew (codes "items") net_items_at ms few_items)
