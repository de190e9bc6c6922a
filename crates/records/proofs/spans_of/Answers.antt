-- Each record's part is the definition's. Assumes nothing.
use Rattle.records.proofs.spans_of.Goals as goal

pub returns-in-FirstRecord : goal.returns-in-FirstRecord
returns-in-FirstRecord c = rw c.in-FirstRecord.is

pub returns-in-CompanyRow : goal.returns-in-CompanyRow
returns-in-CompanyRow c = rw c.in-CompanyRow.is

pub returns-in-CountryRow : goal.returns-in-CountryRow
returns-in-CountryRow c = rw c.in-CountryRow.is

pub returns-in-ModeRow : goal.returns-in-ModeRow
returns-in-ModeRow c = rw c.in-ModeRow.is

pub returns-in-ZoneHead : goal.returns-in-ZoneHead
returns-in-ZoneHead c = rw c.in-ZoneHead.is

pub returns-in-ZonePeriod : goal.returns-in-ZonePeriod
returns-in-ZonePeriod c = rw c.in-ZonePeriod.is

pub returns-in-StationRow : goal.returns-in-StationRow
returns-in-StationRow c = rw c.in-StationRow.is

pub returns-in-FootnoteHead : goal.returns-in-FootnoteHead
returns-in-FootnoteHead c = rw c.in-FootnoteHead.is

pub returns-in-FootnoteVector : goal.returns-in-FootnoteVector
returns-in-FootnoteVector c = rw c.in-FootnoteVector.is

pub returns-in-ServiceHead : goal.returns-in-ServiceHead
returns-in-ServiceHead c = rw c.in-ServiceHead.is

pub returns-in-TrainNumber : goal.returns-in-TrainNumber
returns-in-TrainNumber c = rw c.in-TrainNumber.is

pub returns-in-Validity : goal.returns-in-Validity
returns-in-Validity c = rw c.in-Validity.is

pub returns-in-Transport : goal.returns-in-Transport
returns-in-Transport c = rw c.in-Transport.is

pub returns-in-Attribute : goal.returns-in-Attribute
returns-in-Attribute c = rw c.in-Attribute.is

pub returns-in-PlainStop : goal.returns-in-PlainStop
returns-in-PlainStop c = rw c.in-PlainStop.is

pub returns-in-Interval : goal.returns-in-Interval
returns-in-Interval c = rw c.in-Interval.is

pub returns-in-Passed : goal.returns-in-Passed
returns-in-Passed c = rw c.in-Passed.is

pub returns-in-Platform : goal.returns-in-Platform
returns-in-Platform c = rw c.in-Platform.is

pub returns-in-ChangeHead : goal.returns-in-ChangeHead
returns-in-ChangeHead c = rw c.in-ChangeHead.is

pub returns-in-ChangePair : goal.returns-in-ChangePair
returns-in-ChangePair c = rw c.in-ChangePair.is

pub returns-in-ChangeException : goal.returns-in-ChangeException
returns-in-ChangeException c = rw c.in-ChangeException.is
