-- `form` meets its contract: in an arm the opcode is the arm's number, and past the arms it is past the table.
use mathlib.Core.Path.{sym, ap}
use Rattle.insns.specs.Insns.{form_at}
use Rattle.insns.proofs.Table.{past}
use Rattle.decode.proofs.form.Arms.{none}
use Rattle.decode.proofs.form.form.Goals as goal

pub returns-in-0 : goal.returns-in-0
returns-in-0 c = ap form_at (sym c.in-0.is)

pub returns-in-1 : goal.returns-in-1
returns-in-1 c = ap form_at (sym c.in-1.is)

pub returns-in-2 : goal.returns-in-2
returns-in-2 c = ap form_at (sym c.in-2.is)

pub returns-in-3 : goal.returns-in-3
returns-in-3 c = ap form_at (sym c.in-3.is)

pub returns-in-4 : goal.returns-in-4
returns-in-4 c = ap form_at (sym c.in-4.is)

pub returns-in-5 : goal.returns-in-5
returns-in-5 c = ap form_at (sym c.in-5.is)

pub returns-in-6 : goal.returns-in-6
returns-in-6 c = ap form_at (sym c.in-6.is)

pub returns-in-7 : goal.returns-in-7
returns-in-7 c = ap form_at (sym c.in-7.is)

pub returns-in-8 : goal.returns-in-8
returns-in-8 c = ap form_at (sym c.in-8.is)

pub returns-in-9 : goal.returns-in-9
returns-in-9 c = ap form_at (sym c.in-9.is)

pub returns-in-10 : goal.returns-in-10
returns-in-10 c = ap form_at (sym c.in-10.is)

pub returns-in-11 : goal.returns-in-11
returns-in-11 c = ap form_at (sym c.in-11.is)

pub returns-in-12 : goal.returns-in-12
returns-in-12 c = ap form_at (sym c.in-12.is)

pub returns-in-13 : goal.returns-in-13
returns-in-13 c = ap form_at (sym c.in-13.is)

pub returns-in-14 : goal.returns-in-14
returns-in-14 c = ap form_at (sym c.in-14.is)

pub returns-in-15 : goal.returns-in-15
returns-in-15 c = ap form_at (sym c.in-15.is)

pub returns-in-16 : goal.returns-in-16
returns-in-16 c = ap form_at (sym c.in-16.is)

pub returns-in-17 : goal.returns-in-17
returns-in-17 c = ap form_at (sym c.in-17.is)

pub returns-in-18 : goal.returns-in-18
returns-in-18 c = ap form_at (sym c.in-18.is)

pub returns-in-19 : goal.returns-in-19
returns-in-19 c = ap form_at (sym c.in-19.is)

pub returns-in-20 : goal.returns-in-20
returns-in-20 c = ap form_at (sym c.in-20.is)

pub returns-in-21 : goal.returns-in-21
returns-in-21 c = ap form_at (sym c.in-21.is)

pub returns-in-22 : goal.returns-in-22
returns-in-22 c = ap form_at (sym c.in-22.is)

pub returns-in-23 : goal.returns-in-23
returns-in-23 c = ap form_at (sym c.in-23.is)

pub returns-in-24 : goal.returns-in-24
returns-in-24 c = ap form_at (sym c.in-24.is)

pub returns-in-25 : goal.returns-in-25
returns-in-25 c = ap form_at (sym c.in-25.is)

pub returns-in-26 : goal.returns-in-26
returns-in-26 c = ap form_at (sym c.in-26.is)

pub returns-in-27 : goal.returns-in-27
returns-in-27 c = ap form_at (sym c.in-27.is)

pub returns-in-28 : goal.returns-in-28
returns-in-28 c = ap form_at (sym c.in-28.is)

pub returns-in-29 : goal.returns-in-29
returns-in-29 c = ap form_at (sym c.in-29.is)

pub returns-in-30 : goal.returns-in-30
returns-in-30 c = ap form_at (sym c.in-30.is)

pub returns-in-31 : goal.returns-in-31
returns-in-31 c = ap form_at (sym c.in-31.is)

pub returns-in-32 : goal.returns-in-32
returns-in-32 c = ap form_at (sym c.in-32.is)

pub returns-in-33 : goal.returns-in-33
returns-in-33 c = ap form_at (sym c.in-33.is)

pub returns-in-34 : goal.returns-in-34
returns-in-34 c = ap form_at (sym c.in-34.is)

pub returns-in-35 : goal.returns-in-35
returns-in-35 c = ap form_at (sym c.in-35.is)

pub returns-in-36 : goal.returns-in-36
returns-in-36 c = ap form_at (sym c.in-36.is)

pub returns-in-37 : goal.returns-in-37
returns-in-37 c = ap form_at (sym c.in-37.is)

pub returns-in-38 : goal.returns-in-38
returns-in-38 c = ap form_at (sym c.in-38.is)

pub returns-in-39 : goal.returns-in-39
returns-in-39 c = ap form_at (sym c.in-39.is)

pub returns-in-40 : goal.returns-in-40
returns-in-40 c = ap form_at (sym c.in-40.is)

pub returns-in-41 : goal.returns-in-41
returns-in-41 c = ap form_at (sym c.in-41.is)

pub returns-in-42 : goal.returns-in-42
returns-in-42 c = ap form_at (sym c.in-42.is)

pub returns-in-43 : goal.returns-in-43
returns-in-43 c = ap form_at (sym c.in-43.is)

pub returns-in-44 : goal.returns-in-44
returns-in-44 c = ap form_at (sym c.in-44.is)

pub returns-in-45 : goal.returns-in-45
returns-in-45 c = ap form_at (sym c.in-45.is)

pub returns-in-46 : goal.returns-in-46
returns-in-46 c = ap form_at (sym c.in-46.is)

pub returns-in-47 : goal.returns-in-47
returns-in-47 c = ap form_at (sym c.in-47.is)

pub returns-in-48 : goal.returns-in-48
returns-in-48 c = ap form_at (sym c.in-48.is)

pub returns-in-49 : goal.returns-in-49
returns-in-49 c = ap form_at (sym c.in-49.is)

pub returns-in-50 : goal.returns-in-50
returns-in-50 c = ap form_at (sym c.in-50.is)

pub returns-in-51 : goal.returns-in-51
returns-in-51 c = ap form_at (sym c.in-51.is)

pub returns-in-52 : goal.returns-in-52
returns-in-52 c = ap form_at (sym c.in-52.is)

pub returns-in-53 : goal.returns-in-53
returns-in-53 c = ap form_at (sym c.in-53.is)

pub returns-in-54 : goal.returns-in-54
returns-in-54 c = ap form_at (sym c.in-54.is)

pub returns-in-55 : goal.returns-in-55
returns-in-55 c = ap form_at (sym c.in-55.is)

pub returns-in-56 : goal.returns-in-56
returns-in-56 c = ap form_at (sym c.in-56.is)

pub returns-in-57 : goal.returns-in-57
returns-in-57 c = ap form_at (sym c.in-57.is)

pub returns-in-58 : goal.returns-in-58
returns-in-58 c = ap form_at (sym c.in-58.is)

pub returns-in-59 : goal.returns-in-59
returns-in-59 c = ap form_at (sym c.in-59.is)

pub returns-in-60 : goal.returns-in-60
returns-in-60 c = ap form_at (sym c.in-60.is)

pub returns-in-61 : goal.returns-in-61
returns-in-61 c = ap form_at (sym c.in-61.is)

pub returns-in-62 : goal.returns-in-62
returns-in-62 c = ap form_at (sym c.in-62.is)

pub returns-in-63 : goal.returns-in-63
returns-in-63 c = ap form_at (sym c.in-63.is)

pub returns-in-64 : goal.returns-in-64
returns-in-64 c = ap form_at (sym c.in-64.is)

pub returns-in-65 : goal.returns-in-65
returns-in-65 c = ap form_at (sym c.in-65.is)

pub returns-in-66 : goal.returns-in-66
returns-in-66 c = ap form_at (sym c.in-66.is)

pub returns-in-67 : goal.returns-in-67
returns-in-67 c = ap form_at (sym c.in-67.is)

pub returns-in-68 : goal.returns-in-68
returns-in-68 c = ap form_at (sym c.in-68.is)

pub returns-in-69 : goal.returns-in-69
returns-in-69 c = ap form_at (sym c.in-69.is)

pub returns-in-70 : goal.returns-in-70
returns-in-70 c = ap form_at (sym c.in-70.is)

pub returns-in-71 : goal.returns-in-71
returns-in-71 c = ap form_at (sym c.in-71.is)

pub returns-in-72 : goal.returns-in-72
returns-in-72 c = ap form_at (sym c.in-72.is)

pub returns-in-73 : goal.returns-in-73
returns-in-73 c = ap form_at (sym c.in-73.is)

pub returns-in-74 : goal.returns-in-74
returns-in-74 c = ap form_at (sym c.in-74.is)

pub returns-in-75 : goal.returns-in-75
returns-in-75 c = ap form_at (sym c.in-75.is)

pub returns-in-76 : goal.returns-in-76
returns-in-76 c = ap form_at (sym c.in-76.is)

pub returns-in_default : goal.returns-in_default
returns-in_default c = sym (past c.args.op (none _ 77 c.in_default.in_default-own.rest))
