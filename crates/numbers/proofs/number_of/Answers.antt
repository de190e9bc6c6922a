-- `number_of` meets its contract: in each arm the reason is known. Assumes nothing.
use Rattle.numbers.proofs.number_of.Goals as goal

pub returns-in-TooLong : goal.returns-in-TooLong
returns-in-TooLong c = rw c.in-TooLong.is

pub returns-in-NoRoom : goal.returns-in-NoRoom
returns-in-NoRoom c = rw c.in-NoRoom.is

pub returns-in-Absent : goal.returns-in-Absent
returns-in-Absent c = rw c.in-Absent.is

pub returns-in-Layout : goal.returns-in-Layout
returns-in-Layout c = rw c.in-Layout.is

pub returns-in-Value : goal.returns-in-Value
returns-in-Value c = rw c.in-Value.is

pub returns-in-FirstLine : goal.returns-in-FirstLine
returns-in-FirstLine c = rw c.in-FirstLine.is

pub returns-in-Order : goal.returns-in-Order
returns-in-Order c = rw c.in-Order.is

pub returns-in-Duplicate : goal.returns-in-Duplicate
returns-in-Duplicate c = rw c.in-Duplicate.is

pub returns-in-Reference : goal.returns-in-Reference
returns-in-Reference c = rw c.in-Reference.is

pub returns-in-Legs : goal.returns-in-Legs
returns-in-Legs c = rw c.in-Legs.is

pub returns-in-NotOneBlock : goal.returns-in-NotOneBlock
returns-in-NotOneBlock c = rw c.in-NotOneBlock.is

pub returns-in-NoService : goal.returns-in-NoService
returns-in-NoService c = rw c.in-NoService.is

pub returns-in-NoStop : goal.returns-in-NoStop
returns-in-NoStop c = rw c.in-NoStop.is

pub returns-in-NoDate : goal.returns-in-NoDate
returns-in-NoDate c = rw c.in-NoDate.is

pub returns-in-NoPeriod : goal.returns-in-NoPeriod
returns-in-NoPeriod c = rw c.in-NoPeriod.is

pub returns-in-NotSound : goal.returns-in-NotSound
returns-in-NotSound c = rw c.in-NotSound.is

pub returns-in-NoStation : goal.returns-in-NoStation
returns-in-NoStation c = rw c.in-NoStation.is

pub returns-in-ShortList : goal.returns-in-ShortList
returns-in-ShortList c = rw c.in-ShortList.is
