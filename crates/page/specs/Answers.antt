-- Which of the answers of `specs/Page.antt` the code's results stand for. Definitions only.
use Rattle.std.specs.Prelude.{Option, None, Some, Result, Ok, Err}
use Rattle.picture.specs.declared.refusal.Refusal.{Refusal}
use Rattle.picture.specs.Answer.{number_of}
use Rattle.picture.specs.Refusal.{none, trailer}
use Rattle.page.specs.declared.PageRead.{PageRead as Sides}
use Rattle.page.specs.declared.Trailer.{Trailer as Found}
use Rattle.page.specs.Page.{PageRead, Trailer}

abbrev pub page_answer : Result Sides Refusal → PageRead
page_answer (Ok p) = record { refusal = none; w = p.w; h = p.h }
page_answer (Err e) = record { refusal = number_of e; w = 0; h = 0 }

abbrev pub trailer_answer : Option Found → Trailer
trailer_answer (Some t) = record { refusal = none; w = t.w; h = t.h; back = t.back }
trailer_answer None = record { refusal = trailer; w = 0; h = 0; back = 0 }
