-- A refusal of a whole part or of a pattern, as a decimal's.
use Rattle.text.specs.declared.decimal.DecimalError.{DecimalError}
use Rattle.text.specs.declared.numeral.NumeralError.{NumeralError}

abbrev pub of_numeral : NumeralError → DecimalError
of_numeral NumeralError.NoNumber = DecimalError.NoNumber
of_numeral NumeralError.TooLarge = DecimalError.TooLarge
