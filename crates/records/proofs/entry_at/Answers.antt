-- Each arm is the field of that number among the definitions' that leave a word, and the last arm is what stands beyond them. Assumes nothing.
use mathlib.Core.Path.{refl}
use Rattle.iff.specs.Lists.{kept}
use Rattle.iff.specs.Columns.{record_fields}
use Rattle.records.specs.Layouts.{each, fields}
use Rattle.records.proofs.FieldLaws.{entry_is, entry_beyond}
use Rattle.records.proofs.entry_at.Goals as goal

pub returns-in-0 : goal.returns-in-0
unfolding fields each kept record_fields
returns-in-0 c = rw c.in-0.is (entry_is 0 refl)

pub returns-in-1 : goal.returns-in-1
unfolding fields each kept record_fields
returns-in-1 c = rw c.in-1.is (entry_is 1 refl)

pub returns-in-2 : goal.returns-in-2
unfolding fields each kept record_fields
returns-in-2 c = rw c.in-2.is (entry_is 2 refl)

pub returns-in-3 : goal.returns-in-3
unfolding fields each kept record_fields
returns-in-3 c = rw c.in-3.is (entry_is 3 refl)

pub returns-in-4 : goal.returns-in-4
unfolding fields each kept record_fields
returns-in-4 c = rw c.in-4.is (entry_is 4 refl)

pub returns-in-5 : goal.returns-in-5
unfolding fields each kept record_fields
returns-in-5 c = rw c.in-5.is (entry_is 5 refl)

pub returns-in-6 : goal.returns-in-6
unfolding fields each kept record_fields
returns-in-6 c = rw c.in-6.is (entry_is 6 refl)

pub returns-in-7 : goal.returns-in-7
unfolding fields each kept record_fields
returns-in-7 c = rw c.in-7.is (entry_is 7 refl)

pub returns-in-8 : goal.returns-in-8
unfolding fields each kept record_fields
returns-in-8 c = rw c.in-8.is (entry_is 8 refl)

pub returns-in-9 : goal.returns-in-9
unfolding fields each kept record_fields
returns-in-9 c = rw c.in-9.is (entry_is 9 refl)

pub returns-in-10 : goal.returns-in-10
unfolding fields each kept record_fields
returns-in-10 c = rw c.in-10.is (entry_is 10 refl)

pub returns-in-11 : goal.returns-in-11
unfolding fields each kept record_fields
returns-in-11 c = rw c.in-11.is (entry_is 11 refl)

pub returns-in-12 : goal.returns-in-12
unfolding fields each kept record_fields
returns-in-12 c = rw c.in-12.is (entry_is 12 refl)

pub returns-in-13 : goal.returns-in-13
unfolding fields each kept record_fields
returns-in-13 c = rw c.in-13.is (entry_is 13 refl)

pub returns-in-14 : goal.returns-in-14
unfolding fields each kept record_fields
returns-in-14 c = rw c.in-14.is (entry_is 14 refl)

pub returns-in-15 : goal.returns-in-15
unfolding fields each kept record_fields
returns-in-15 c = rw c.in-15.is (entry_is 15 refl)

pub returns-in-16 : goal.returns-in-16
unfolding fields each kept record_fields
returns-in-16 c = rw c.in-16.is (entry_is 16 refl)

pub returns-in-17 : goal.returns-in-17
unfolding fields each kept record_fields
returns-in-17 c = rw c.in-17.is (entry_is 17 refl)

pub returns-in-18 : goal.returns-in-18
unfolding fields each kept record_fields
returns-in-18 c = rw c.in-18.is (entry_is 18 refl)

pub returns-in-19 : goal.returns-in-19
unfolding fields each kept record_fields
returns-in-19 c = rw c.in-19.is (entry_is 19 refl)

pub returns-in-20 : goal.returns-in-20
unfolding fields each kept record_fields
returns-in-20 c = rw c.in-20.is (entry_is 20 refl)

pub returns-in-21 : goal.returns-in-21
unfolding fields each kept record_fields
returns-in-21 c = rw c.in-21.is (entry_is 21 refl)

pub returns-in-22 : goal.returns-in-22
unfolding fields each kept record_fields
returns-in-22 c = rw c.in-22.is (entry_is 22 refl)

pub returns-in-23 : goal.returns-in-23
unfolding fields each kept record_fields
returns-in-23 c = rw c.in-23.is (entry_is 23 refl)

pub returns-in-24 : goal.returns-in-24
unfolding fields each kept record_fields
returns-in-24 c = rw c.in-24.is (entry_is 24 refl)

pub returns-in-25 : goal.returns-in-25
unfolding fields each kept record_fields
returns-in-25 c = rw c.in-25.is (entry_is 25 refl)

pub returns-in-26 : goal.returns-in-26
unfolding fields each kept record_fields
returns-in-26 c = rw c.in-26.is (entry_is 26 refl)

pub returns-in-27 : goal.returns-in-27
unfolding fields each kept record_fields
returns-in-27 c = rw c.in-27.is (entry_is 27 refl)

pub returns-in-28 : goal.returns-in-28
unfolding fields each kept record_fields
returns-in-28 c = rw c.in-28.is (entry_is 28 refl)

pub returns-in-29 : goal.returns-in-29
unfolding fields each kept record_fields
returns-in-29 c = rw c.in-29.is (entry_is 29 refl)

pub returns-in-30 : goal.returns-in-30
unfolding fields each kept record_fields
returns-in-30 c = rw c.in-30.is (entry_is 30 refl)

pub returns-in-31 : goal.returns-in-31
unfolding fields each kept record_fields
returns-in-31 c = rw c.in-31.is (entry_is 31 refl)

pub returns-in-32 : goal.returns-in-32
unfolding fields each kept record_fields
returns-in-32 c = rw c.in-32.is (entry_is 32 refl)

pub returns-in-33 : goal.returns-in-33
unfolding fields each kept record_fields
returns-in-33 c = rw c.in-33.is (entry_is 33 refl)

pub returns-in-34 : goal.returns-in-34
unfolding fields each kept record_fields
returns-in-34 c = rw c.in-34.is (entry_is 34 refl)

pub returns-in-35 : goal.returns-in-35
unfolding fields each kept record_fields
returns-in-35 c = rw c.in-35.is (entry_is 35 refl)

pub returns-in-36 : goal.returns-in-36
unfolding fields each kept record_fields
returns-in-36 c = rw c.in-36.is (entry_is 36 refl)

pub returns-in-37 : goal.returns-in-37
unfolding fields each kept record_fields
returns-in-37 c = rw c.in-37.is (entry_is 37 refl)

pub returns-in-38 : goal.returns-in-38
unfolding fields each kept record_fields
returns-in-38 c = rw c.in-38.is (entry_is 38 refl)

pub returns-in-39 : goal.returns-in-39
unfolding fields each kept record_fields
returns-in-39 c = rw c.in-39.is (entry_is 39 refl)

pub returns-in-40 : goal.returns-in-40
unfolding fields each kept record_fields
returns-in-40 c = rw c.in-40.is (entry_is 40 refl)

pub returns-in-41 : goal.returns-in-41
unfolding fields each kept record_fields
returns-in-41 c = rw c.in-41.is (entry_is 41 refl)

pub returns-in-42 : goal.returns-in-42
unfolding fields each kept record_fields
returns-in-42 c = rw c.in-42.is (entry_is 42 refl)

pub returns-in-43 : goal.returns-in-43
unfolding fields each kept record_fields
returns-in-43 c = rw c.in-43.is (entry_is 43 refl)

pub returns-in-44 : goal.returns-in-44
unfolding fields each kept record_fields
returns-in-44 c = rw c.in-44.is (entry_is 44 refl)

pub returns-in-45 : goal.returns-in-45
unfolding fields each kept record_fields
returns-in-45 c = rw c.in-45.is (entry_is 45 refl)

pub returns-in-46 : goal.returns-in-46
unfolding fields each kept record_fields
returns-in-46 c = rw c.in-46.is (entry_is 46 refl)

pub returns-in-47 : goal.returns-in-47
unfolding fields each kept record_fields
returns-in-47 c = rw c.in-47.is (entry_is 47 refl)

pub returns-in-48 : goal.returns-in-48
unfolding fields each kept record_fields
returns-in-48 c = rw c.in-48.is (entry_is 48 refl)

pub returns-in-49 : goal.returns-in-49
unfolding fields each kept record_fields
returns-in-49 c = rw c.in-49.is (entry_is 49 refl)

pub returns-in-50 : goal.returns-in-50
unfolding fields each kept record_fields
returns-in-50 c = rw c.in-50.is (entry_is 50 refl)

pub returns-in_default : goal.returns-in_default
unfolding fields each kept record_fields
returns-in_default c = entry_beyond _ c.in_default.in_default-own.rest
