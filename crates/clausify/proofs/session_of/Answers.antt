-- The empty session with the clauses written.
use Rattle.clausify.proofs.Texts.{session_holds}
use Rattle.clausify.proofs.session_of.Goals as goal

pub returns : goal.returns
returns c =
    let fresh = c.new in
    let none = fresh.ensures.nothing in (
      session_holds _ _ c.requires _ c.max.ensures fresh.result fresh.ensures.holds _
          c.implications_of.result c.flats_of.ensures c.implications_of.ensures,
      record { no_verdict = none.no_verdict; no_worlds = none.no_worlds; work = none.work },
    )
