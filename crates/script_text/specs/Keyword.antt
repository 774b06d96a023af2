-- The first words of the lines of a script.
use Rattle.std.specs.Prelude.{ℕ, List, codes, Option, bytes_eq}
use Rattle.std.specs.List.{find}
use Rattle.script_text.specs.declared.keywords.Keyword.{Keyword}
use Rattle.script_text.specs.declared.keywords.Keyword.TheVariants as keyword
use Rattle.script_text.specs.declared.keywords.TheConstants.{KEYWORDS}

-- the word that begins such a line
abbrev pub name_of : Keyword → List ℕ
name_of keyword.Shape = codes "shape"
name_of keyword.Register = codes "register"
name_of keyword.Put = codes "put"
name_of keyword.Get = codes "get"
name_of keyword.Delete = codes "delete"
name_of keyword.Call = codes "call"
name_of keyword.Step = codes "step"
name_of keyword.Go = codes "go"
name_of keyword.Late = codes "late"
name_of keyword.Stop = codes "stop"
name_of keyword.Lose = codes "lose"
name_of keyword.Fill = codes "fill"
name_of keyword.Settle = codes "settle"
name_of keyword.Recover = codes "recover"
name_of keyword.Join = codes "join"
name_of keyword.Task = codes "task"
name_of keyword.Work = codes "work"
name_of keyword.Verbs = codes "verbs"
name_of keyword.Dump = codes "dump"
name_of keyword.Count = codes "count"
name_of keyword.History = codes "history"

-- the keyword that this word is
unfoldable pub keyword_of : List ℕ → Option Keyword
keyword_of word = find (λ keyword. bytes_eq (name_of keyword) word) KEYWORDS
