-- A member put at its place.
use Rattle.std.proofs.Common.{◌≡◌, ℕ, List, [], ◌∷◌, ap, arith}
use Rattle.std.specs.List.{insert}
use Rattle.mw_model.specs.Json.{Json, Members, no_members, member, IsWritable, MembersAreWritable}
use Rattle.mw_model.specs.Trees.{put_member}
use Rattle.mw_json.specs.View.{members_of, member_view, members_view}
use Rattle.mw_json.specs.declared.tree.Member.{Member}
use Rattle.mw_packets_out.specs.Places.{place_in}

inserted_there : (ms : List Member) (m : Member) (name : List ℕ) (j : Json) → member_view m ≡ (name, j) → members_view (insert ms (place_in name (members_view ms)) m) ≡ put_member name j (members_view ms)
inserted_there [] m name j is = ap (λ p. members_of (p ∷ [])) is
inserted_there (n ∷ ms) m name j is = grind (arith, inserted_there ms m name j is)

pub put_there : (ms : List Member) (m : Member) (at : ℕ) (name : List ℕ) (j : Json) → member_view m ≡ (name, j) → at ≡ place_in name (members_view ms) → members_view (insert ms at m) ≡ put_member name j (members_view ms)
put_there ms m at name j is here = rw here (inserted_there ms m name j is)

pub still_writable : (ms : Members) (name : List ℕ) (j : Json) → MembersAreWritable ms → IsWritable j → MembersAreWritable (put_member name j ms)
still_writable no_members name j all one = (one, tt)
still_writable (member other k ms) name j all one = grind (arith, still_writable ms name j all.1 one)
