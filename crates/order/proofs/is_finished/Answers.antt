-- `order::is_finished` meets its contract: in an arm the stand is known. Assumes nothing.
use Rattle.order.proofs.is_finished.Goals as goal

pub returns-in-Start : goal.returns-in-Start
returns-in-Start c = rw c.in-Start.is

pub returns-in-Hash : goal.returns-in-Hash
returns-in-Hash c = rw c.in-Hash.is

pub returns-in-Percent : goal.returns-in-Percent
returns-in-Percent c = rw c.in-Percent.is

pub returns-in-Dash : goal.returns-in-Dash
returns-in-Dash c = rw c.in-Dash.is

pub returns-in-Ampersand : goal.returns-in-Ampersand
returns-in-Ampersand c = rw c.in-Ampersand.is

pub returns-in-Asterisk : goal.returns-in-Asterisk
returns-in-Asterisk c = rw c.in-Asterisk.is

pub returns-in-Stop : goal.returns-in-Stop
returns-in-Stop c = rw c.in-Stop.is

pub returns-in-Between : goal.returns-in-Between
returns-in-Between c = rw c.in-Between.is

pub returns-in-Last : goal.returns-in-Last
returns-in-Last c = rw c.in-Last.is

pub returns-in-LastPlatform : goal.returns-in-LastPlatform
returns-in-LastPlatform c = rw c.in-LastPlatform.is
