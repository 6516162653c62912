-- `binary` meets its contract: by the kind that an arm knows.
use borrow.Author.Tests.{ne_eqb}
use Rattle.ops.specs.Code.{operate_of}
use Rattle.ops.proofs.binary.Goals as goal

pub returns-in_default : goal.returns-in_default
returns-in_default c =
    simp (
      ne_eqb _ _ c.in_default.in_default-own.rest.0.0.0.0.0.0.0.0.0.0.0.0.0.0.0.1,
      ne_eqb _ _ c.in_default.in_default-own.rest.0.0.0.0.0.0.0.0.0.0.0.0.0.0.1,
      ne_eqb _ _ c.in_default.in_default-own.rest.0.0.0.0.0.0.0.0.0.0.0.0.0.1,
      ne_eqb _ _ c.in_default.in_default-own.rest.0.0.0.0.0.0.0.0.0.0.0.0.1,
      ne_eqb _ _ c.in_default.in_default-own.rest.0.0.0.0.0.0.0.0.0.0.0.1,
      ne_eqb _ _ c.in_default.in_default-own.rest.0.0.0.0.0.0.0.0.0.0.1,
      ne_eqb _ _ c.in_default.in_default-own.rest.0.0.0.0.0.0.0.0.0.1,
      ne_eqb _ _ c.in_default.in_default-own.rest.0.0.0.0.0.0.0.0.1,
      ne_eqb _ _ c.in_default.in_default-own.rest.0.0.0.0.0.0.0.1,
      ne_eqb _ _ c.in_default.in_default-own.rest.0.0.0.0.0.0.1,
      ne_eqb _ _ c.in_default.in_default-own.rest.0.0.0.0.0.1,
      ne_eqb _ _ c.in_default.in_default-own.rest.0.0.0.0.1,
      ne_eqb _ _ c.in_default.in_default-own.rest.0.0.0.1,
      ne_eqb _ _ c.in_default.in_default-own.rest.0.0.1,
      ne_eqb _ _ c.in_default.in_default-own.rest.0.1,
      ne_eqb _ _ c.in_default.in_default-own.rest.1,
    )

pub returns-in-8 : goal.returns-in-8
unfolding operate_of
returns-in-8 c = rw c.in-8.is c.operate.ensures

pub returns-in-9 : goal.returns-in-9
unfolding operate_of
returns-in-9 c = rw c.in-9.is c.operate-in-9.ensures

pub returns-in-10 : goal.returns-in-10
unfolding operate_of
returns-in-10 c = rw c.in-10.is c.operate-in-10.ensures

pub returns-in-11 : goal.returns-in-11
unfolding operate_of
returns-in-11 c = rw c.in-11.is c.operate-in-11.ensures

pub returns-in-12 : goal.returns-in-12
unfolding operate_of
returns-in-12 c = rw c.in-12.is c.operate-in-12.ensures

pub returns-in-13 : goal.returns-in-13
unfolding operate_of
returns-in-13 c = rw c.in-13.is c.operate-in-13.ensures

pub returns-in-14 : goal.returns-in-14
unfolding operate_of
returns-in-14 c = rw c.in-14.is c.operate-in-14.ensures

pub returns-in-15 : goal.returns-in-15
unfolding operate_of
returns-in-15 c = rw c.in-15.is c.operate-in-15.ensures

pub returns-in-16 : goal.returns-in-16
unfolding operate_of
returns-in-16 c = rw c.in-16.is c.operate-in-16.ensures

pub returns-in-17 : goal.returns-in-17
unfolding operate_of
returns-in-17 c = rw c.in-17.is c.operate-in-17.ensures

pub returns-in-18 : goal.returns-in-18
unfolding operate_of
returns-in-18 c = rw c.in-18.is c.compare.ensures

pub returns-in-19 : goal.returns-in-19
unfolding operate_of
returns-in-19 c = rw c.in-19.is c.compare-in-19.ensures

pub returns-in-20 : goal.returns-in-20
unfolding operate_of
returns-in-20 c = rw c.in-20.is c.compare-in-20.ensures

pub returns-in-21 : goal.returns-in-21
unfolding operate_of
returns-in-21 c = rw c.in-21.is c.compare-in-21.ensures

pub returns-in-22 : goal.returns-in-22
unfolding operate_of
returns-in-22 c = rw c.in-22.is c.compare-in-22.ensures

pub returns-in-23 : goal.returns-in-23
unfolding operate_of
returns-in-23 c = rw c.in-23.is c.compare-in-23.ensures
