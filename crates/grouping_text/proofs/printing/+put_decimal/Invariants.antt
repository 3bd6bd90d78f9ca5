-- Each call has a place less.
use Rattle.grouping_text.proofs.printing.+put_decimal.Given as goal

abbrev pub decreases-put_decimal : goal.decreases-put_decimal
decreases-put_decimal l = l.places
