-- The whole numbers of packets are a reading's.
use Rattle.std.proofs.Common.{◌≡◌, ℕ, ℤ, List, Option, None, Ok, codes}
use Rattle.std.specs.Prelude.{All, IfOk, IfSome}
use Rattle.std.proofs.lemmas.Result.{IfOk-at_ok, IfOk-weaker}
use Rattle.mw_model.specs.Json.{Json, null, flag, whole, not_whole, numeral, words, many, members, Members, IsInRange}
use Rattle.mw_protocol.specs.Packets.{Version}
use Rattle.mw_json.specs.Grammar.{items_length, list_at, object_at, field_at}
use Rattle.mw_json.specs.Parts.{null_or_at}
use Rattle.mw_json.specs.Readers.{each_from, field_or_at}
use Rattle.mw_json.specs.Valid.{IsValid, ItemsAreValid, MembersAreValid}
use Rattle.mw_json.proofs.Kept.{AreKept, each_valid_kept, in_valid_field, in_valid_field_or, list_valid, object_valid}
use Rattle.mw_json.proofs.Passing.{after}
use Rattle.mw_packets_in.specs.Fields.{whole_at, wholes_at}
use Rattle.mw_packets_in.specs.Kept.{AreRead, IsVersion}
use Rattle.mw_packets_in.specs.Rows.{version_at}

whole_is : (j : Json) → IsValid j → IfOk (whole_at j) IsInRange
whole_is (whole z) h = h
whole_is null h = tt
whole_is (flag b) h = tt
whole_is not_whole h = tt
whole_is (numeral s) h = tt
whole_is (words s) h = tt
whole_is (many js) h = tt
whole_is (members ms) h = tt

pub wholes_are : (j : Json) → IsValid j → IfOk (wholes_at j) (All IsInRange)
unfolding wholes_at
wholes_are j o =
    after ItemsAreValid (All IsInRange) (list_at j) _ (list_valid j o) (λ js v.
    IfOk-weaker (each_from whole_at 0 js) (AreKept IsInRange (items_length js)) (All IsInRange) (λ zs k. k.1) (each_valid_kept IsInRange whole_at whole_is 0 js v))

pub whole_kept : (name : List ℕ) (z : ℤ) (ms : Members) → AreRead 62 ms → field_at name whole_at ms ≡ Ok z → IsInRange z
whole_kept name z ms h e = IfOk-at_ok IsInRange e (in_valid_field IsInRange name whole_at ms h.valid whole_is)

pub wholes_kept : (zs : List ℤ) (ms : Members) → AreRead 62 ms → field_at (codes "locations") wholes_at ms ≡ Ok zs → All IsInRange zs
wholes_kept zs ms h e = IfOk-at_ok (All IsInRange) e (in_valid_field (All IsInRange) (codes "locations") wholes_at ms h.valid wholes_are)

-- ---- a Connect

version_is : (j : Json) → IsValid j → IfOk (version_at j) IsVersion
unfolding version_at
version_is j o =
    after MembersAreValid IsVersion (object_at j) _ (object_valid j o) (λ ms w.
    after IsInRange IsVersion (field_at (codes "major") whole_at ms) _ (in_valid_field IsInRange (codes "major") whole_at ms w whole_is) (λ major a.
    after IsInRange IsVersion (field_at (codes "minor") whole_at ms) _ (in_valid_field IsInRange (codes "minor") whole_at ms w whole_is) (λ minor b.
    after IsInRange IsVersion (field_at (codes "build") whole_at ms) _ (in_valid_field IsInRange (codes "build") whole_at ms w whole_is) (λ build c.
    record { major = a; minor = b; build = c }))))

pub version_kept : (version : Version) (ms : Members) → AreRead 62 ms → field_at (codes "version") version_at ms ≡ Ok version → IsVersion version
version_kept version ms h e = IfOk-at_ok IsVersion e (in_valid_field IsVersion (codes "version") version_at ms h.valid version_is)

abbrev IsThere : Option ℤ → Type 0
IsThere found = IfSome found IsInRange

null_or_whole : (j : Json) → IsValid j → IfOk (null_or_at whole_at j) IsThere
null_or_whole (whole z) h = h
null_or_whole null h = tt
null_or_whole (flag b) h = tt
null_or_whole not_whole h = tt
null_or_whole (numeral s) h = tt
null_or_whole (words s) h = tt
null_or_whole (many js) h = tt
null_or_whole (members ms) h = tt

pub items_handling_kept : (mask : Option ℤ) (ms : Members) → AreRead 62 ms → field_or_at (codes "items_handling") None (null_or_at whole_at) ms ≡ Ok mask → IfSome mask IsInRange
items_handling_kept mask ms h e = IfOk-at_ok IsThere e (in_valid_field_or IsThere (codes "items_handling") None (null_or_at whole_at) ms h.valid tt null_or_whole)
