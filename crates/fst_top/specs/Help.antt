-- The texts of --help and --version.
use Rattle.std.specs.Prelude.{ℕ, List, ◌++◌, codes}

abbrev pub usage_text : List ℕ
usage_text = codes "fstar: a checker and runner for a first-order core of F* with user-defined effects\n\nfstar check FILE                proves the functions of the file\nfstar run FILE FUEL ARGUMENTS   proves them, then runs main with so many units of fuel\nfstar --help                    prints this text\nfstar --version                 prints the version and the kit\n./fstar --prove                 in a checkout: proves and builds the program\n\n"

abbrev pub statuses_text : List ℕ
statuses_text = codes "exit statuses: 0 done, 1 not proved, 2 the file is refused, 3 the words are refused,\n4 out of fuel, 7 the file can't be read, 8 the text can't be written, 10 no memory;\n70 the script ./fstar itself failed\n\n"

abbrev pub help_text : List ℕ
help_text = usage_text ++ statuses_text ++ codes "example: fstar check examples/same.fst\n"

abbrev pub version_text : List ℕ
version_text = codes "fstar 0.1.0, proved with rattle-kit-13f logic dac8208d650f15bf\n"
