use Rattle.std.proofs.Common.{◌≡◌, ◌++◌, ◌∷◌, ◌∙◌, inr, List, [], ap, sym, subst}
use Rattle.mw_disk.proofs.Moments.{wider}
use Rattle.mw_journal.specs.Journal.{disk_of}
use Rattle.mw_link.specs.Dials.{Exchange, exchange_of}
use Rattle.mw_model.specs.Items.{NetItem}
use Rattle.mw_client.specs.Playing.{Play}
use Rattle.mw_play.specs.Saves.{KeepsList}
use Rattle.mw_play.specs.Turns.{Follows, HoldsFront, HoldsHeard, HoldsLast, texts_in}
use Rattle.mw_play.proofs.Following.{list_is}
use Rattle.mw_play.proofs.turns.play_on.Goals as goal

pub returns-in-Ok-over-clause-plays : goal.returns-in-Ok-over-clause-plays
returns-in-Ok-over-clause-plays g c =
    let line = exchange_of g.L.Line.Link.heard g.L.Line.Link.sent c.play_over-over.new.line in
    let begins : c.in_ok-play.play.list ≡ c.args.list.now = ap (λ (p : Play). p.list) c.in_ok-play.ensures in
    let follows : Follows g.L.Line.Link.heard g.L.Line.Link.sent c.args.player.now c.args.list.now c.play_over-over.new.line c.play_over-over.new.play =
    subst (λ (l : List NetItem). Follows g.L.Line.Link.heard g.L.Line.Link.sent c.args.player.now l c.play_over-over.new.line c.play_over-over.new.play) begins c.in-Ok-over.ensures.follows in
    record {
      line = line;
      hung_up = c.hang_up.ensures.hung_up ∙ ap (λ (xs : List Exchange). xs ++ line ∷ []) c.dial.ensures.hung_up;
      knows = follows.knows;
      list_is = ap (λ (p : Play). p.list) follows.knows ∙ list_is c.args.list.now (g.L.Line.Link.heard c.play_over-over.new.line);
      sent = follows.sent;
      ends = c.in-Ok-over.ensures.ends;
    }

pub returns-in-Ok-over-clause-moments : goal.returns-in-Ok-over-clause-moments
returns-in-Ok-over-clause-moments g c = λ digest keeps.
    let line = exchange_of g.L.Line.Link.heard g.L.Line.Link.sent c.play_over-over.new.line in
    let begins : c.in_ok-play.play.list ≡ c.args.list.now = ap (λ (p : Play). p.list) c.in_ok-play.ensures in
    wider g.D.Disk.moment g.D.Disk.left_since (disk_of c.args.journal.now) (disk_of c.play_over-over.new.journal) (HoldsFront digest c.in_ok-play.play.list (texts_in line.heard))
    (HoldsHeard digest c.args.list.now (g.L.Dial.hung_up c.args.dial.now) (g.L.Dial.hung_up c.hang_up.new.self))
    (c.play_over-over.ensures.moments digest (subst (λ (l : List NetItem). KeepsList g.D.Disk.may_leave digest c.args.journal.now l) (sym begins) keeps))
    (λ i held. inr (line, c.hang_up.ensures.hung_up ∙ ap (λ (xs : List Exchange). xs ++ line ∷ []) c.dial.ensures.hung_up, subst (λ (l : List NetItem). HoldsFront digest l (texts_in line.heard) i) begins held))

pub returns-in-Err-over-clause-moments : goal.returns-in-Err-over-clause-moments
returns-in-Err-over-clause-moments g c = λ digest keeps.
    let line = exchange_of g.L.Line.Link.heard g.L.Line.Link.sent c.play_over-over.new.line in
    let begins : c.in_ok-play.play.list ≡ c.args.list.now = ap (λ (p : Play). p.list) c.in_ok-play.ensures in
    wider g.D.Disk.moment g.D.Disk.left_since (disk_of c.args.journal.now) (disk_of c.play_over-over.new.journal) (HoldsFront digest c.in_ok-play.play.list (texts_in line.heard))
    (HoldsHeard digest c.args.list.now (g.L.Dial.hung_up c.args.dial.now) (g.L.Dial.hung_up c.hang_up.new.self))
    (c.play_over-over.ensures.moments digest (subst (λ (l : List NetItem). KeepsList g.D.Disk.may_leave digest c.args.journal.now l) (sym begins) keeps))
    (λ i held. inr (line, c.hang_up.ensures.hung_up ∙ ap (λ (xs : List Exchange). xs ++ line ∷ []) c.dial.ensures.hung_up, subst (λ (l : List NetItem). HoldsFront digest l (texts_in line.heard) i) begins held))

pub returns-in-Ok-over-clause-last : goal.returns-in-Ok-over-clause-last
returns-in-Ok-over-clause-last g c = λ digest keeps.
    let line = exchange_of g.L.Line.Link.heard g.L.Line.Link.sent c.play_over-over.new.line in
    let begins : c.in_ok-play.play.list ≡ c.args.list.now = ap (λ (p : Play). p.list) c.in_ok-play.ensures in
    inr (
      line,
      c.hang_up.ensures.hung_up ∙ ap (λ (xs : List Exchange). xs ++ line ∷ []) c.dial.ensures.hung_up,
      λ i left.
          subst (λ (l : List NetItem). HoldsLast digest l (texts_in line.heard) i) begins
          (c.play_over-over.ensures.last digest (subst (λ (l : List NetItem). KeepsList g.D.Disk.may_leave digest c.args.journal.now l) (sym begins) keeps) i left),
    )

pub returns-in-Err-over-clause-last : goal.returns-in-Err-over-clause-last
returns-in-Err-over-clause-last g c = λ digest keeps.
    let line = exchange_of g.L.Line.Link.heard g.L.Line.Link.sent c.play_over-over.new.line in
    let begins : c.in_ok-play.play.list ≡ c.args.list.now = ap (λ (p : Play). p.list) c.in_ok-play.ensures in
    inr (
      line,
      c.hang_up.ensures.hung_up ∙ ap (λ (xs : List Exchange). xs ++ line ∷ []) c.dial.ensures.hung_up,
      λ i left.
          subst (λ (l : List NetItem). HoldsLast digest l (texts_in line.heard) i) begins
          (c.play_over-over.ensures.last digest (subst (λ (l : List NetItem). KeepsList g.D.Disk.may_leave digest c.args.journal.now l) (sym begins) keeps) i left),
    )
