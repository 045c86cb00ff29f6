-- What the program's literal stands for.
use Rattle.py_check_displays.specs.declared.items.Literal as declared
use Rattle.py_check_displays.specs.Indexing.{Literal}

abbrev pub literal_seen : declared.Literal → Literal
literal_seen l = record { is_negative = l.is_negative; number = l.number }
