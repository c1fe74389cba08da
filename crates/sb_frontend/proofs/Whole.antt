-- Each call goes on with all that a connection did from its first byte on.
use Rattle.std.proofs.Common.{◌≡◌, ◌≤◌, ◌-◌, ℕ, Bool, true, List, [], ◌∷◌, ◌++◌, length, drop, refl, sym, ap, ◌∙◌, arith, append_assoc, length-append}
use Rattle.std.specs.List.{flat_map}
use Rattle.std.proofs.lemmas.List.{drop-append-le, drop-drop, length-drop}
use Rattle.sb_frontend.specs.Conversations.{Standing, at_start}
use Rattle.sb_frontend.specs.Dialogues.{Answers, Converses, Dialogue, Item, Takes, Talks, after_end, after_receiving, after_sending, bytes_of, cut, message_of, nothing_yet, packet_of, unreadable}
use Rattle.sb_frontend.specs.Starts.{Source}
use Rattle.sb_frontend.proofs.Connecting.{answers-talk}

pub begun : (source : Source) → Converses source nothing_yet
begun source = record { items = []; text = []; bytes = refl; talks = (refl, refl); told = λ w. (omega arith, refl) }

pub received : (source : Source) (d : Dialogue) (more : List ℕ) → Converses source d → Converses source (after_receiving d more)
received source d more c = record {
  items = c.items;
  text = c.text;
  bytes = ap (λ (t : List ℕ). t ++ more) c.bytes ∙ append_assoc (flat_map bytes_of c.items) d.waiting more;
  talks = c.talks;
  told = c.told;
}

-- what was taken before the end is taken behind it
takes-ended : (source : Source) (e : Bool) (i : Item) (a b : Standing) (t : List ℕ) → Takes source e i a t b → Takes source true i a t b
takes-ended source e (packet_of p) a b t h = h
takes-ended source e (message_of m) a b t h = h
takes-ended source e (unreadable bytes) a b t h = h
takes-ended source e (cut bytes) a b t h = (refl, h.1, h.2, h.3)

talks-ended : (source : Source) (e : Bool) (is : List Item) (a b : Standing) (t : List ℕ) → Talks source e is a t b → Talks source true is a t b
talks-ended source e [] a b t h = h
talks-ended source e (i ∷ is) a b t h = (h.0, h.1, h.2, takes-ended source e i a h.2 h.0 h.3, talks-ended source e is h.2 b h.1 h.4, h.5)

pub ended : (source : Source) (d : Dialogue) → Converses source d → Converses source (after_end d)
ended source d c = record {
  items = c.items;
  text = c.text;
  bytes = c.bytes;
  talks = talks-ended source d.at_end c.items at_start d.at c.text c.talks;
  told = c.told;
}

pub sent : (source : Source) (d : Dialogue) (count : ℕ) → count ≤ length d.out.bytes → Converses source d → Converses source (after_sending d count)
sent source d count few c = record {
  items = c.items;
  text = c.text;
  bytes = c.bytes;
  talks = c.talks;
  told = λ w.
      let h = c.told w in
      let left : length d.out.bytes ≡ length c.text - d.sent = ap length h.1 ∙ length-drop d.sent c.text in
      (omega (arith, few, h.0, left), ap (drop count) h.1 ∙ drop-drop count d.sent c.text);
}

pub answers : (source : Source) (old new : Dialogue) → Answers source old new → Converses source old → Converses source new
answers source old new a c =
    let t = answers-talk source old new c.items c.text c.talks a in
    record {
      items = c.items ++ a.0;
      text = c.text ++ a.1;
      bytes = a.5.1 ∙ c.bytes ∙ t.0;
      talks = t.1;
      told = λ w.
          let h = a.4 w in
          let g = c.told h.0 in
          let long = length-append c.text a.1 in
          (omega (arith, g.0, long, a.5.2), h.1 ∙ ap (λ (b : List ℕ). b ++ a.1) g.1 ∙ sym (drop-append-le old.sent c.text a.1 g.0) ∙ ap (λ (n : ℕ). drop n (c.text ++ a.1)) (sym a.5.2));
    }
