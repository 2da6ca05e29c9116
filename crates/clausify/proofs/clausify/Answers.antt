-- The text is refused, or its table is named and its clauses are written.
use Rattle.clausify.proofs.Texts.{read_nameable, root_row, read_clausified, refused_clausified}
use borrow.Author.Rules.{rules}
use Rattle.clausify.proofs.clausify.Goals as goal

pub names_of-names-requires : goal.names_of-names-requires
names_of-names-requires c = let read = c.in-Ok.ensures in (read.0.sound, read.1)

pub session_of-requires : goal.session_of-requires
session_of-requires c = read_nameable _ _ _ c.in-Ok.ensures.0 _ c.names_of-names.ensures

pub bounds-names-from : goal.bounds-names-from
bounds-names-from c = rw c.from.ensures (root_row _ _ _ c.in-Ok.ensures.0)

pub returns-in-Err : goal.returns-in-Err
returns-in-Err c = refused_clausified _ _ c.in-Err.ensures _ c.new.ensures.holds c.new.ensures.nothing

pub returns-in-Ok : goal.returns-in-Ok
returns-in-Ok c =
    let session = c.session_of.ensures in
    rw c.from.ensures (read_clausified _ _ _ c.in-Ok.ensures.0 _ c.names_of-names.ensures (search rules) _ session.0 session.1)
