use Rattle.xp_door.proofs.notices.Notice.words.Goals as goal

pub returns-in-Refused : goal.returns-in-Refused
returns-in-Refused c = rw (c.in-Refused.is) (c.connection_from.ensures)

pub returns-in-HasOne : goal.returns-in-HasOne
returns-in-HasOne c = rw (c.in-HasOne.is) (c.connection_from-in-HasOne.ensures)

pub returns-in-NoRouter : goal.returns-in-NoRouter
returns-in-NoRouter c = rw (c.in-NoRouter.is) (c.connection_from-in-NoRouter.ensures)

pub returns-in-NoFreeLine : goal.returns-in-NoFreeLine
returns-in-NoFreeLine c = rw (c.in-NoFreeLine.is) (c.connection_from-in-NoFreeLine.ensures)

pub returns-in-NoRoom : goal.returns-in-NoRoom
returns-in-NoRoom c = rw (c.in-NoRoom.is) (c.connection_from-in-NoRoom.ensures)

pub returns-in-NoFrame : goal.returns-in-NoFrame
returns-in-NoFrame c = rw (c.in-NoFrame.is) (c.connection_from-in-NoFrame.ensures)

pub returns-in-NoFraming : goal.returns-in-NoFraming
returns-in-NoFraming c = rw (c.in-NoFraming.is) (c.connection_from-in-NoFraming.ensures)

pub returns-in-EndedEarly : goal.returns-in-EndedEarly
returns-in-EndedEarly c = rw (c.in-EndedEarly.is) (c.connection_from-in-EndedEarly.ensures)

pub returns-in-Replaced : goal.returns-in-Replaced
returns-in-Replaced c = rw (c.in-Replaced.is) (c.ending_in.ensures)

pub returns-in-Up : goal.returns-in-Up
returns-in-Up c = rw (c.in-Up.is) (c.ending_in-in-Up.ensures)

pub returns-in-Down : goal.returns-in-Down
returns-in-Down c = rw (c.in-Down.is) (c.ending_in-in-Down.ensures)

pub returns-in-Connected : goal.returns-in-Connected
returns-in-Connected c = rw (c.in-Connected.is) (c.ending_in-in-Connected.ensures)

pub returns-in-Closed : goal.returns-in-Closed
returns-in-Closed c = rw (c.in-Closed.is) (c.ending_in-in-Closed.ensures)

pub returns-in-NotConnected : goal.returns-in-NotConnected
returns-in-NotConnected c = rw (c.in-NotConnected.is) (c.ending_in-in-NotConnected.ensures)

pub returns-in-CallCleared : goal.returns-in-CallCleared
returns-in-CallCleared c = rw (c.in-CallCleared.is) (c.ending_in-in-CallCleared.ensures)
