use Rattle.bac_tool.proofs.error_lines.+put_long_decimal.Given as goal

abbrev pub decreases-put_long_decimal : goal.decreases-put_long_decimal
decreases-put_long_decimal l = l.number
