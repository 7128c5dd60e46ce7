-- A test that decides between two values.
-- Assumes nothing.
use borrow.Author.Tests.{eq-eqb, ne_eqb, le-leb, lt-leb}

pub ruleset choices = (eq-eqb, ne_eqb, le-leb, lt-leb)
