-- Prints are in byte order, and can be written.
use Rattle.std.proofs.Common.{◌≡◌, ℕ, List, [], ◌∷◌, Bool, map, codes, refl, sym, subst}
use Rattle.mw_model.specs.Items.{NetItem}
use Rattle.mw_model.specs.Json.{Json, flag, words, Members, no_members, member, IsOrdered, ItemsAreWritable, ItemsAreOrdered, MembersAreWritable}
use Rattle.mw_model.specs.Trees.{items_of, text_json}
use Rattle.mw_protocol.specs.Messages.{item_json}
use Rattle.mw_protocol.specs.Prints.{Part, text, player, item, location, part_json, of_player, of_tagged, of_item}
use Rattle.mw_packets_out.specs.Kept.{IsPrint}
use Rattle.mw_chat.specs.Kept.{AreSound, CanPrint}

-- with parts
pub is_print : (kind : List ℕ) (further : Members) (content : List Json) → CanPrint kind further → AreSound content → IsPrint record { kind = kind; further = further; content = content }
is_print kind further content can sound = record {
  writable = (tt, (sound.writable, can.writable.1.1));
  ordered = (tt, can.ordered.1, (sound.ordered, can.ordered.2.1, can.ordered.2.2));
}

-- ---- parts

part_ordered : (p : Part) → IsOrdered (part_json p)
part_ordered (text t) = (tt, tt, tt)
part_ordered (player slot) = (tt, (refl, tt), (tt, tt, tt))
part_ordered (item id receiver flags) = (tt, (refl, (refl, (refl, tt))), (tt, (refl, (refl, tt)), (tt, (refl, tt), (tt, tt, tt))))
part_ordered (location id finder) = (tt, (refl, (refl, tt)), (tt, (refl, tt), (tt, tt, tt)))

parts_ordered : (ps : List Part) → ItemsAreOrdered (items_of (map part_json ps))
parts_ordered [] = tt
parts_ordered (p ∷ ps) = (part_ordered p, parts_ordered ps)

-- parts that can be written
pub parts_sound : (ps : List Part) (js : List Json) → js ≡ map part_json ps → ItemsAreWritable (items_of js) → AreSound js
parts_sound ps js is can = record {
  writable = can;
  ordered = rw is (parts_ordered ps);
}

-- ---- further members

pub nothing_prints : (kind : List ℕ) → CanPrint kind no_members
nothing_prints kind = record {
  writable = (tt, (tt, (tt, tt)));
  ordered = (tt, (refl, (refl, tt)), (tt, (refl, tt), (tt, tt, tt)));
}

player_print : (kind : List ℕ) (team slot : ℕ) → MembersAreWritable (of_player team slot) → CanPrint kind (of_player team slot)
player_print kind team slot w = record {
  writable = (tt, (tt, (w.0, (w.1.0, (tt, tt)))));
  ordered = (tt, (refl, (refl, (refl, (refl, tt)))), (tt, (refl, (refl, (refl, tt))), (tt, (refl, (refl, tt)), (tt, (refl, tt), (tt, tt, tt)))));
}

pub player_prints : (kind : List ℕ) (team slot : ℕ) (ms : Members) → ms ≡ of_player team slot → MembersAreWritable ms → CanPrint kind ms
player_prints kind team slot ms is w = subst (CanPrint kind) (sym is) (player_print kind team slot (subst MembersAreWritable is w))

texts_ordered : (ts : List (List ℕ)) → ItemsAreOrdered (items_of (map text_json ts))
texts_ordered [] = tt
texts_ordered (t ∷ ts) = (tt, texts_ordered ts)

tagged_print : (kind : List ℕ) (team slot : ℕ) (tags : List (List ℕ)) → MembersAreWritable (of_tagged team slot tags) → CanPrint kind (of_tagged team slot tags)
tagged_print kind team slot tags w = record {
  writable = (tt, (tt, (w.0, (w.1.0, (w.1.1.0, (tt, tt))))));
  ordered = (
    tt,
    (refl, (refl, (refl, (refl, (refl, tt))))),
    (
      tt,
      (refl, (refl, (refl, (refl, tt)))),
      (tt, (refl, (refl, (refl, tt))), (texts_ordered tags, (refl, (refl, tt)), (tt, (refl, tt), (tt, tt, tt)))),
    ),
  );
}

pub tagged_prints : (kind : List ℕ) (team slot : ℕ) (tags : List (List ℕ)) (ms : Members) → ms ≡ of_tagged team slot tags → MembersAreWritable ms → CanPrint kind ms
tagged_prints kind team slot tags ms is w = subst (CanPrint kind) (sym is) (tagged_print kind team slot tags (subst MembersAreWritable is w))

message_print : (kind : List ℕ) (team slot : ℕ) (message : List ℕ) → MembersAreWritable (member (codes "message") (words message) (of_player team slot))
    → CanPrint kind (member (codes "message") (words message) (of_player team slot))
message_print kind team slot message w = record {
  writable = (tt, (tt, (tt, (w.1.0, (w.1.1.0, (tt, tt))))));
  ordered = (
    tt,
    (refl, (refl, (refl, (refl, (refl, tt))))),
    (
      tt,
      (refl, (refl, (refl, (refl, tt)))),
      (tt, (refl, (refl, (refl, tt))), (tt, (refl, (refl, tt)), (tt, (refl, tt), (tt, tt, tt)))),
    ),
  );
}

pub message_prints : (kind : List ℕ) (team slot : ℕ) (message : List ℕ) (ms : Members) → ms ≡ member (codes "message") (words message) (of_player team slot)
    → MembersAreWritable ms → CanPrint kind ms
message_prints kind team slot message ms is w = subst (CanPrint kind) (sym is) (message_print kind team slot message (subst MembersAreWritable is w))

item_ordered : (i : NetItem) → IsOrdered (item_json i)
item_ordered i = (tt, (refl, (refl, (refl, (refl, tt)))), (tt, (refl, (refl, (refl, tt))), (tt, (refl, (refl, tt)), (tt, (refl, tt), (tt, tt, tt)))))

item_print : (kind : List ℕ) (i : NetItem) (receiver : ℕ) → MembersAreWritable (of_item i receiver) → CanPrint kind (of_item i receiver)
item_print kind i receiver w = record {
  writable = (tt, (tt, (w.0, (w.1.0, (tt, tt)))));
  ordered = (tt, (refl, (refl, (refl, (refl, tt)))), (tt, (refl, (refl, (refl, tt))), (item_ordered i, (refl, (refl, tt)), (tt, (refl, tt), (tt, tt, tt)))));
}

pub item_prints : (kind : List ℕ) (i : NetItem) (receiver : ℕ) (ms : Members) → ms ≡ of_item i receiver → MembersAreWritable ms → CanPrint kind ms
item_prints kind i receiver ms is w = subst (CanPrint kind) (sym is) (item_print kind i receiver (subst MembersAreWritable is w))

hint_print : (kind : List ℕ) (i : NetItem) (receiver : ℕ) (found : Bool) → MembersAreWritable (member (codes "found") (flag found) (of_item i receiver))
    → CanPrint kind (member (codes "found") (flag found) (of_item i receiver))
hint_print kind i receiver found w = record {
  writable = (tt, (tt, (tt, (w.1.0, (w.1.1.0, (tt, tt))))));
  ordered = (
    tt,
    (refl, (refl, (refl, (refl, (refl, tt))))),
    (
      tt,
      (refl, (refl, (refl, (refl, tt)))),
      (tt, (refl, (refl, (refl, tt))), (item_ordered i, (refl, (refl, tt)), (tt, (refl, tt), (tt, tt, tt)))),
    ),
  );
}

pub hint_prints : (kind : List ℕ) (i : NetItem) (receiver : ℕ) (found : Bool) (ms : Members) → ms ≡ member (codes "found") (flag found) (of_item i receiver)
    → MembersAreWritable ms → CanPrint kind ms
hint_prints kind i receiver found ms is w = subst (CanPrint kind) (sym is) (hint_print kind i receiver found (subst MembersAreWritable is w))
