-- What a packet with further members has of its own.
use Rattle.std.specs.Prelude.{ℕ, List}
use Rattle.mw_json.specs.Sets.{set_names}
use Rattle.mw_packets_in.specs.Kept.{bounce_names, get_names}
use Rattle.mw_packets_in.specs.declared.row.Row.{Row}
use Rattle.mw_packets_in.specs.declared.row.Row.TheVariants as row

abbrev pub own_names : Row → List (List ℕ)
own_names row.Bounce = bounce_names
own_names row.Get = get_names
own_names row.Set = set_names
