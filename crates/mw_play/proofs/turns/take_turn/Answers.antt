use Rattle.std.proofs.Common.{rules, ◌≡◌, ◌⊎◌, ◌++◌, ◌∷◌, ◌∙◌, ℕ, List, [], append-nil, refl, sym, arith}
use Rattle.std.specs.Prelude.{Err}
use Rattle.mw_disk.proofs.Moments.{wider}
use Rattle.mw_journal.specs.Journal.{disk_of}
use Rattle.mw_link.specs.declared.link.Heard.TheVariants.{Words, Binary, NotYet, End}
use Rattle.mw_client.specs.Hearing.{news_in}
use Rattle.mw_client.specs.Playing.{next_all}
use Rattle.mw_play.specs.Saves.{HoldsList}
use Rattle.mw_play.specs.Turns.{HoldsFront, texts_in}
use Rattle.mw_play.specs.declared.over.CutShort.TheVariants.{Full}
use Rattle.mw_play.proofs.Following.{follows_other, follows_words, front_same, front_words, full_words, last_same, last_words}
use Rattle.mw_play.proofs.Carried.{left_now}
use Rattle.mw_play.proofs.Kept.{keeps_holds, nothing_left}
use Rattle.mw_play.proofs.turns.take_turn.Goals as goal

pub returns-in_err-hear_text-in-Ok-Words-clause-moments : goal.returns-in_err-hear_text-in-Ok-Words-clause-moments
returns-in_err-hear_text-in-Ok-Words-clause-moments g c = λ digest list f keeps.
    let heard : g.L.Link.heard c.recv.new.self ≡ g.L.Link.heard c.args.line.now ++ Words c.in-Ok-Words.text ∷ [] = search rules in
    wider g.D.Disk.moment g.D.Disk.left_since (disk_of c.args.journal.now) (disk_of c.hear_text.new.journal)
    (λ (i : List ℕ). HoldsList i digest c.args.play.now.list ⊎ HoldsList i digest (next_all c.args.play.now (news_in c.in-Ok-Words.text)).list) (HoldsFront digest list (texts_in (g.L.Link.heard c.hear_text.new.line)))
    (c.hear_text.ensures.moments digest keeps)
    (λ i held. front_words i digest list (g.L.Link.heard c.args.line.now) (g.L.Link.heard c.hear_text.new.line) c.args.play.now c.in-Ok-Words.text f.knows (c.hear_text.ensures.heard ∙ heard) held)

pub returns-in_err-hear_text-in-Ok-Words-clause-full : goal.returns-in_err-hear_text-in-Ok-Words-clause-full
returns-in_err-hear_text-in-Ok-Words-clause-full g c = λ digest list f keeps is.
    let heard : g.L.Link.heard c.recv.new.self ≡ g.L.Link.heard c.args.line.now ++ Words c.in-Ok-Words.text ∷ [] = search rules in
    let full : c.hear_text.result ≡ Err Full = search rules in
    full_words (g.D.Disk.may_leave (disk_of c.hear_text.new.journal)) digest list (g.L.Link.heard c.args.line.now) (g.L.Link.heard c.hear_text.new.line) c.args.play.now c.in-Ok-Words.text f.knows (c.hear_text.ensures.heard ∙ heard)
    (c.hear_text.ensures.full digest keeps full)

pub returns-in_ok-hear_text-in-Ok-Words-clause-follows : goal.returns-in_ok-hear_text-in-Ok-Words-clause-follows
returns-in_ok-hear_text-in-Ok-Words-clause-follows g c = λ list f.
    let heard : g.L.Link.heard c.recv.new.self ≡ g.L.Link.heard c.args.line.now ++ Words c.in-Ok-Words.text ∷ [] = search rules in
    follows_words g.L.Link.heard g.L.Link.sent c.args.player.now list c.args.line.now c.recv.new.self c.hear_text.new.line c.args.play.now c.hear_text.new.play c.in-Ok-Words.text f heard c.recv.ensures.sent c.hear_text.ensures.heard
    c.in_ok-hear_text-in-Ok-Words.ensures.sent c.in_ok-hear_text-in-Ok-Words.ensures.knows

pub returns-in_ok-hear_text-in-Ok-Words-clause-moments : goal.returns-in_ok-hear_text-in-Ok-Words-clause-moments
returns-in_ok-hear_text-in-Ok-Words-clause-moments g c = λ digest list f keeps.
    let heard : g.L.Link.heard c.recv.new.self ≡ g.L.Link.heard c.args.line.now ++ Words c.in-Ok-Words.text ∷ [] = search rules in
    wider g.D.Disk.moment g.D.Disk.left_since (disk_of c.args.journal.now) (disk_of c.hear_text.new.journal)
    (λ (i : List ℕ). HoldsList i digest c.args.play.now.list ⊎ HoldsList i digest (next_all c.args.play.now (news_in c.in-Ok-Words.text)).list) (HoldsFront digest list (texts_in (g.L.Link.heard c.hear_text.new.line)))
    (c.hear_text.ensures.moments digest keeps)
    (λ i held. front_words i digest list (g.L.Link.heard c.args.line.now) (g.L.Link.heard c.hear_text.new.line) c.args.play.now c.in-Ok-Words.text f.knows (c.hear_text.ensures.heard ∙ heard) held)

pub returns-in-Ok-End-clause-follows : goal.returns-in-Ok-End-clause-follows
returns-in-Ok-End-clause-follows g c = λ list f.
    let heard : g.L.Link.heard c.recv.new.self ≡ g.L.Link.heard c.args.line.now ++ End ∷ [] = search rules in
    follows_other g.L.Link.heard g.L.Link.sent c.args.player.now list c.args.line.now c.recv.new.self c.args.play.now End refl f heard c.recv.ensures.sent

pub returns-in-Ok-End-clause-moments : goal.returns-in-Ok-End-clause-moments
returns-in-Ok-End-clause-moments g c = λ digest list f keeps.
    let heard : g.L.Link.heard c.recv.new.self ≡ g.L.Link.heard c.args.line.now ++ End ∷ [] = search rules in
    nothing_left g.D.Disk.may_leave g.D.Disk.moment g.D.Disk.left_since g.met.D.Disk.only_now digest c.args.journal.now c.args.play.now.list (HoldsFront digest list (texts_in (g.L.Link.heard c.recv.new.self))) keeps
    (λ i holds. front_same i digest list (g.L.Link.heard c.args.line.now) (End ∷ []) (g.L.Link.heard c.recv.new.self) c.args.play.now f.knows heard holds)

pub returns-in-Ok-Binary-clause-follows : goal.returns-in-Ok-Binary-clause-follows
returns-in-Ok-Binary-clause-follows g c = λ list f.
    let heard : g.L.Link.heard c.recv.new.self ≡ g.L.Link.heard c.args.line.now ++ Binary ∷ [] = search rules in
    follows_other g.L.Link.heard g.L.Link.sent c.args.player.now list c.args.line.now c.recv.new.self c.args.play.now Binary refl f heard c.recv.ensures.sent

pub returns-in-Ok-Binary-clause-moments : goal.returns-in-Ok-Binary-clause-moments
returns-in-Ok-Binary-clause-moments g c = λ digest list f keeps.
    let heard : g.L.Link.heard c.recv.new.self ≡ g.L.Link.heard c.args.line.now ++ Binary ∷ [] = search rules in
    nothing_left g.D.Disk.may_leave g.D.Disk.moment g.D.Disk.left_since g.met.D.Disk.only_now digest c.args.journal.now c.args.play.now.list (HoldsFront digest list (texts_in (g.L.Link.heard c.recv.new.self))) keeps
    (λ i holds. front_same i digest list (g.L.Link.heard c.args.line.now) (Binary ∷ []) (g.L.Link.heard c.recv.new.self) c.args.play.now f.knows heard holds)

pub returns-in-Ok-Binary-2-clause-follows : goal.returns-in-Ok-Binary-2-clause-follows
returns-in-Ok-Binary-2-clause-follows g c = λ list f.
    let heard : g.L.Link.heard c.recv.new.self ≡ g.L.Link.heard c.args.line.now ++ NotYet ∷ [] = search rules in
    follows_other g.L.Link.heard g.L.Link.sent c.args.player.now list c.args.line.now c.recv.new.self c.args.play.now NotYet refl f heard c.recv.ensures.sent

pub returns-in-Ok-Binary-2-clause-moments : goal.returns-in-Ok-Binary-2-clause-moments
returns-in-Ok-Binary-2-clause-moments g c = λ digest list f keeps.
    let heard : g.L.Link.heard c.recv.new.self ≡ g.L.Link.heard c.args.line.now ++ NotYet ∷ [] = search rules in
    nothing_left g.D.Disk.may_leave g.D.Disk.moment g.D.Disk.left_since g.met.D.Disk.only_now digest c.args.journal.now c.args.play.now.list (HoldsFront digest list (texts_in (g.L.Link.heard c.recv.new.self))) keeps
    (λ i holds. front_same i digest list (g.L.Link.heard c.args.line.now) (NotYet ∷ []) (g.L.Link.heard c.recv.new.self) c.args.play.now f.knows heard holds)

pub returns-in-Err-clause-moments : goal.returns-in-Err-clause-moments
returns-in-Err-clause-moments g c = λ digest list f keeps.
    let heard : g.L.Link.heard c.recv.new.self ≡ g.L.Link.heard c.args.line.now = search rules in
    nothing_left g.D.Disk.may_leave g.D.Disk.moment g.D.Disk.left_since g.met.D.Disk.only_now digest c.args.journal.now c.args.play.now.list (HoldsFront digest list (texts_in (g.L.Link.heard c.recv.new.self))) keeps
    (λ i holds. front_same i digest list (g.L.Link.heard c.args.line.now) [] (g.L.Link.heard c.recv.new.self) c.args.play.now f.knows (heard ∙ sym (append-nil (g.L.Link.heard c.args.line.now))) holds)

pub returns-in_err-hear_text-in-Ok-Words-clause-last : goal.returns-in_err-hear_text-in-Ok-Words-clause-last
returns-in_err-hear_text-in-Ok-Words-clause-last g c = λ digest list f keeps i left.
    let heard : g.L.Link.heard c.recv.new.self ≡ g.L.Link.heard c.args.line.now ++ Words c.in-Ok-Words.text ∷ [] = search rules in
    last_words i digest list (g.L.Link.heard c.args.line.now) (g.L.Link.heard c.hear_text.new.line) c.args.play.now c.in-Ok-Words.text f.knows (c.hear_text.ensures.heard ∙ heard)
    (left_now g.D.Disk.may_leave g.D.Disk.moment g.D.Disk.left_since g.met.D.Disk.counts_now (disk_of c.args.journal.now) (disk_of c.hear_text.new.journal)
    (λ (x : List ℕ). HoldsList x digest c.args.play.now.list ⊎ HoldsList x digest (next_all c.args.play.now (news_in c.in-Ok-Words.text)).list) (c.hear_text.ensures.moments digest keeps) i left)

pub returns-in_ok-hear_text-in-Ok-Words-clause-last : goal.returns-in_ok-hear_text-in-Ok-Words-clause-last
returns-in_ok-hear_text-in-Ok-Words-clause-last g c = λ digest list f keeps i left.
    let heard : g.L.Link.heard c.recv.new.self ≡ g.L.Link.heard c.args.line.now ++ Words c.in-Ok-Words.text ∷ [] = search rules in
    last_words i digest list (g.L.Link.heard c.args.line.now) (g.L.Link.heard c.hear_text.new.line) c.args.play.now c.in-Ok-Words.text f.knows (c.hear_text.ensures.heard ∙ heard)
    (left_now g.D.Disk.may_leave g.D.Disk.moment g.D.Disk.left_since g.met.D.Disk.counts_now (disk_of c.args.journal.now) (disk_of c.hear_text.new.journal)
    (λ (x : List ℕ). HoldsList x digest c.args.play.now.list ⊎ HoldsList x digest (next_all c.args.play.now (news_in c.in-Ok-Words.text)).list) (c.hear_text.ensures.moments digest keeps) i left)

pub returns-in-Ok-End-clause-last : goal.returns-in-Ok-End-clause-last
returns-in-Ok-End-clause-last g c = λ digest list f keeps i left.
    let heard : g.L.Link.heard c.recv.new.self ≡ g.L.Link.heard c.args.line.now ++ End ∷ [] = search rules in
    last_same i digest list (g.L.Link.heard c.args.line.now) (End ∷ []) (g.L.Link.heard c.recv.new.self) c.args.play.now f.knows heard (omega arith)
    (keeps_holds g.D.Disk.may_leave g.D.Disk.moment g.D.Disk.left_since g.met.D.Disk.only_now digest c.args.journal.now c.args.play.now.list keeps i left)

pub returns-in-Ok-Binary-clause-last : goal.returns-in-Ok-Binary-clause-last
returns-in-Ok-Binary-clause-last g c = λ digest list f keeps i left.
    let heard : g.L.Link.heard c.recv.new.self ≡ g.L.Link.heard c.args.line.now ++ Binary ∷ [] = search rules in
    last_same i digest list (g.L.Link.heard c.args.line.now) (Binary ∷ []) (g.L.Link.heard c.recv.new.self) c.args.play.now f.knows heard (omega arith)
    (keeps_holds g.D.Disk.may_leave g.D.Disk.moment g.D.Disk.left_since g.met.D.Disk.only_now digest c.args.journal.now c.args.play.now.list keeps i left)

pub returns-in-Ok-Binary-2-clause-last : goal.returns-in-Ok-Binary-2-clause-last
returns-in-Ok-Binary-2-clause-last g c = λ digest list f keeps i left.
    let heard : g.L.Link.heard c.recv.new.self ≡ g.L.Link.heard c.args.line.now ++ NotYet ∷ [] = search rules in
    last_same i digest list (g.L.Link.heard c.args.line.now) (NotYet ∷ []) (g.L.Link.heard c.recv.new.self) c.args.play.now f.knows heard (omega arith)
    (keeps_holds g.D.Disk.may_leave g.D.Disk.moment g.D.Disk.left_since g.met.D.Disk.only_now digest c.args.journal.now c.args.play.now.list keeps i left)

pub returns-in-Err-clause-last : goal.returns-in-Err-clause-last
returns-in-Err-clause-last g c = λ digest list f keeps i left.
    let heard : g.L.Link.heard c.recv.new.self ≡ g.L.Link.heard c.args.line.now = search rules in
    last_same i digest list (g.L.Link.heard c.args.line.now) [] (g.L.Link.heard c.recv.new.self) c.args.play.now f.knows (heard ∙ sym (append-nil (g.L.Link.heard c.args.line.now))) (omega arith)
    (keeps_holds g.D.Disk.may_leave g.D.Disk.moment g.D.Disk.left_since g.met.D.Disk.only_now digest c.args.journal.now c.args.play.now.list keeps i left)
