-- Request 9, of every lawful screen: a list of byte writes, reads and lock calls is the list of its commands and lock calls, answer by
-- answer, register by register and buffer by buffer. Assumes nothing.
use mathlib.Core.Path.{◌≡◌, refl, sym, ap, ap₂, ◌∙◌, subst}
use mathlib.Core.Bool.{Bool, true, false, cond}
use mathlib.Core.List.{List, [], ◌∷◌, ◌++◌, map}
use Prim.Native.Nat.{ℕ, ◌+◌, ◌*◌}
use native.Mathlib.Omega.{arith}
use lib.Dec.{eqb}
use lib.ListN.{set, drop}
use Rattle.clarity.specs.declared.Clarity.{Clarity}
use Rattle.header.specs.declared.Header.{Header}
use Rattle.machine.specs.Lists.{count}
use Rattle.machine.specs.Screen.{Screen, Lawful, block_words}
use Rattle.machine.specs.Machine.{State, Call, Paint, Refresh, Lock, Answer, Painted, Refreshed, Locked, header_of, step, after, answers}
use Rattle.machine.specs.Calls.{is_stale, stale_of, PaintEnd, RefreshEnd, paint_end, refresh_end}
use Rattle.machine.specs.Demand3.{Buffers, Ran, none, paint, paint_list, refresh, show, lock, Trace, started, left, Follows, latest}
use Rattle.machine.proofs.Lists.{stale_bytes}
use Rattle.machine.proofs.Good.{Good}
use Rattle.machine.proofs.Held.{held, stale_held}
use Rattle.machine.proofs.Demand3.{every as every3, good_step, good_met, more, ended}
use Rattle.registers.specs.Registers.{byte, two_bytes, four_bytes, stale_bit, start_of, is_paint, with_byte, after_paint, after_refresh, refusal_write}
use Rattle.registers.specs.Registers.{ReadEnd}
use Rattle.registers_machine.specs.Device.{after_answer, Event, Write, Read, LockCall, Reply, Written, Got, Called, Seen, Device, write_byte, ends, sees, unwritten, written, calls_at, calls_of, last_command, last_count, last_refusal}
use Rattle.registers_machine.specs.Calls.{WriteEnd, write_end}
use Rattle.registers_machine.specs.AsCalls.{RanEvents, EventTrace, device_started, EventsFollow, AtCut, AsCalls}
use Rattle.registers_machine.specs.AsCalls as events
use Rattle.registers.proofs.Bytes.{set_keeps}
use Rattle.registers_machine.proofs.Kept.{Kept, kept_write, kept_list, calls_same, session_list}
use Rattle.registers_machine.proofs.Status.{Right, right_list}
use Rattle.registers_machine.proofs.Commands.{list_sets}
use Rattle.registers_machine.proofs.Flags.{flags_list}
use Rattle.registers_machine.proofs.Counts.{count_list}

-- two_bytes lists of calls, the second from where the first ends
ran_append : {S : Screen} {header mid last : Header} {b m e : Buffers} {cs ds : List Call} {rs ts : List Answer}
    → Ran S header b cs rs mid m → Ran S mid m ds ts last e → Ran S header b (cs ++ ds) (rs ++ ts) last e
ran_append none k = k
ran_append (paint p r) k = paint p (ran_append r k)
ran_append (paint_list p r) k = paint_list p (ran_append r k)
ran_append (refresh p r) k = refresh p (ran_append r k)
ran_append (show p r) k = show p (ran_append r k)
ran_append (lock p r) k = lock p (ran_append r k)

-- the buffers that a write left
abbrev buffers_of : WriteEnd → Buffers
buffers_of d = record { picture = d.picture; output = d.output; marks = d.marks }

-- the first of some answers
first_of : Answer → List Answer → Answer
first_of z [] = z
first_of z (a ∷ as') = a

module _ (S : Screen) (L : Lawful S) (w h : ℕ) (q : Clarity) (b₀ : Buffers) {stale : ℕ} {header₀ : Header} {e₀ : Buffers}
    (t₀ : Trace S w h q b₀ stale [] [] header₀ e₀) where
  -- the buffers that hold a state, with what b₀ has behind
  abbrev keep : State → Buffers
  keep s = held (drop (w * h) b₀.picture) (drop (block_words S * (w * h)) b₀.output) (drop (w * h) b₀.marks) s

  -- one call from buffers that hold a state: what it leaves and answers
  record Stepped (c : Call) (a : Answer) (s : State) (last : Header) (e : Buffers) : Type 0 where
    header_now : last ≡ header_of w h (step S w h c s).0
    buffers_now : e ≡ keep (step S w h c s).0
    answer_now : a ≡ (step S w h c s).1
    good_now : Good S w h (step S w h c s).0

  stepped : {header last : Header} {b e : Buffers} (c : Call) (a : Answer) → Ran S header b (c ∷ []) (a ∷ []) last e → (s : State) → Good S w h s
      → header ≡ header_of w h s → b ≡ keep s → Stepped c a s last e
  unfolding first_of
  stepped c a r s g k l =
      let m = more S L w h q b₀ t₀ r s g k l in
      record { header_now = m.0; buffers_now = m.1; answer_now = ap (first_of a) m.2; good_now = good_step S L w h c s g }

  -- ---- one write, from buffers that hold a state

  module _ (header : Header) (b : Buffers) (r : List ℕ) (s : State) (g : Good S w h s) (k : header ≡ header_of w h s) (l : b ≡ keep s) where
    -- the write left d; it is the calls cs, and the plain machine did t
    record Done (d : WriteEnd) (cs : List Call) (t : Device × Reply) : Type 0 where
      replies : List Answer
      ran : Ran S header b cs replies header (buffers_of d)
      reply_now : Written d.refusal ≡ t.1
      registers_now : d.registers ≡ t.0.registers
      header_now : header ≡ header_of w h t.0.session
      buffers_now : buffers_of d ≡ keep t.0.session
      good_now : Good S w h t.0.session

    before_held : count (stale_of (header.w * header.h) b.marks) ≡ count s.stale
    before_held =
        ap₂ (λ (k : Header) (b : Buffers). count (stale_of (k.w * k.h) b.marks)) k l
        ∙ ap count (stale_held S w h s g (drop (w * h) b₀.marks))

    p : PaintEnd
    p = paint_end S header b.picture b.marks (two_bytes r 4) (two_bytes r 6) (four_bytes r 8)

    f : RefreshEnd
    f = refresh_end S header b.picture b.output b.marks (two_bytes r 12)

    painted_ends : WriteEnd
    painted_ends = record { picture = p.picture; output = b.output; marks = p.marks; registers = after_paint r p.refusal p.stale; refusal = 0 }

    refreshed_ends : WriteEnd
    refreshed_ends = record {
      picture = b.picture;
      output = f.output;
      marks = f.marks;
      registers = after_refresh r (count (stale_of (header.w * header.h) b.marks)) f.refusal f.left;
      refusal = 0;
    }

    -- what the plain machine does of a command
    command_did : Call → Device × Reply
    command_did c = (record { session = (step S w h c s).0; registers = after_answer r (count s.stale) (step S w h c s).1 }, Written 0)

    done_paint : Done painted_ends (Paint (two_bytes r 4) (two_bytes r 6) (four_bytes r 8) ∷ []) (command_did (Paint (two_bytes r 4) (two_bytes r 6) (four_bytes r 8)))
    unfolding p painted_ends command_did
    done_paint =
        let c = Paint (two_bytes r 4) (two_bytes r 6) (four_bytes r 8) in
        let a = Painted p.refusal p.changed p.stale in
        let x : Ran S header b (c ∷ []) (a ∷ []) header (buffers_of painted_ends) = paint {d = p} (record { is = refl }) none in
        let y = stepped c a x s g k l in
        record {
          replies = a ∷ [];
          ran = x;
          reply_now = refl;
          registers_now = ap (after_answer r (count s.stale)) y.answer_now;
          header_now = y.header_now;
          buffers_now = y.buffers_now;
          good_now = y.good_now;
        }

    done_refresh : Done refreshed_ends (Refresh (two_bytes r 12) ∷ []) (command_did (Refresh (two_bytes r 12)))
    unfolding f refreshed_ends command_did
    done_refresh =
        let c = Refresh (two_bytes r 12) in
        let a = Refreshed f.refusal f.drawn f.left in
        let x : Ran S header b (c ∷ []) (a ∷ []) header (buffers_of refreshed_ends) = refresh {d = f} (record { is = refl }) none in
        let y = stepped c a x s g k l in
        record {
          replies = a ∷ [];
          ran = x;
          reply_now = refl;
          registers_now = ap₂ (λ (n : ℕ) (t : Answer). after_answer r n t) before_held y.answer_now;
          header_now = y.header_now;
          buffers_now = y.buffers_now;
          good_now = y.good_now;
        }

    -- nothing but registers, or nothing at all
    done_plain : (r' : List ℕ) (n : ℕ)
        → Done (record { picture = b.picture; output = b.output; marks = b.marks; registers = r'; refusal = n }) []
        (record { session = s; registers = r' }, Written n)
    done_plain r' n = record { replies = []; ran = none; reply_now = refl; registers_now = refl; header_now = k; buffers_now = l; good_now = g }

    done : (a v : ℕ) → Done (write_end S header b.picture b.output b.marks r a v) (calls_at r a v) (write_byte S w h a v (record { session = s; registers = r }))
    unfolding write_end p f painted_ends refreshed_ends command_did
    done a v = by_tests (eqb (refusal_write a v) 0) (eqb a 0) (is_paint v)
      where
        call : Bool → Call
        call z = cond z (Paint (two_bytes r 4) (two_bytes r 6) (four_bytes r 8)) (Refresh (two_bytes r 12))

        by_tests : (x y z : Bool)
            → Done
            (cond x
            (cond y (cond z painted_ends refreshed_ends) (record { picture = b.picture; output = b.output; marks = b.marks; registers = with_byte r a v; refusal = 0 }))
            (record { picture = b.picture; output = b.output; marks = b.marks; registers = r; refusal = 15 }))
            (cond x (cond y (call z ∷ []) []) [])
            (cond x (cond y (command_did (call z)) (record { session = s; registers = with_byte r a v }, Written 0)) (record { session = s; registers = r }, Written 15))
        by_tests true true true = done_paint
        by_tests true true false = done_refresh
        by_tests true false z = done_plain (with_byte r a v) 0
        by_tests false y z = done_plain r 15

  -- ---- a list of events

  -- the events es from a state s and registers r, the bytes last written being l
  record Events-held (header : Header) (b : Buffers) (r l : List ℕ) (s : State) (es : List Event) (seen : List Seen) (last : Header) (e : Buffers)
      (r' : List ℕ) : Type 0 where
    replies : List Answer
    ran : Ran S header b (calls_of l es) replies last e
    seen_now : seen ≡ sees S w h es (record { session = s; registers = r })
    registers_now : r' ≡ (ends S w h es (record { session = s; registers = r })).registers

  events_held : {header last : Header} {b e : Buffers} {r r' : List ℕ} {es : List Event} {seen : List Seen} → RanEvents S header b r es seen last e r'
      → (s : State) (l : List ℕ) → Good S w h s → header ≡ header_of w h s → b ≡ keep s → Kept r l → Events-held header b r l s es seen last e r'
  events_held events.none s l g k m n = record { replies = []; ran = none; seen_now = refl; registers_now = refl }
  events_held {header} {last} {b} {e} {r} {r'} (events.write {es = es} {seen = seen} {a = a} {v = v} {d = d} x f) s l g k m n =
      let t : Device × Reply = write_byte S w h a v (record { session = s; registers = r }) in
      let o : Done header b r s g k m d (calls_at r a v) t =
      subst (λ (d : WriteEnd). Done header b r s g k m d (calls_at r a v) t) (sym x.is) (done header b r s g k m a v) in
      let n' : Kept d.registers (set l a v) =
      subst (λ (y : List ℕ). Kept y (set l a v)) (sym o.registers_now) (kept_write S w h a v (record { session = s; registers = r }) l n) in
      let i = events_held f t.0.session (set l a v) o.good_now o.header_now o.buffers_now n' in
      let z : ◌≡◌ {A = Device} (record { session = t.0.session; registers = d.registers }) t.0 =
      ap (λ (y : List ℕ). record { session = t.0.session; registers = y }) o.registers_now in
      record {
        replies = o.replies ++ i.replies;
        ran = ran_append (subst (λ (cs : List Call). Ran S header b cs o.replies header (buffers_of d)) (calls_same S w h r l a v n) o.ran) i.ran;
        seen_now = ap₂ {C = List Seen} ◌∷◌ (ap₂ (λ (y : Reply) (u : List ℕ). record { reply = y; registers = u }) o.reply_now o.registers_now)
            (i.seen_now ∙ ap (sees S w h es) z);
        registers_now = i.registers_now ∙ ap (λ (y : Device). (ends S w h es y).registers) z;
      }
  events_held {header} {last} {b} {e} {r} {r'} (events.read {es = es} {seen = seen} {a = a} {d = d} x f) s l g k m n =
      let i = events_held f s l g k m n in
      record {
        replies = i.replies;
        ran = i.ran;
        seen_now = ap₂ {C = List Seen} ◌∷◌ (ap (λ (d : ReadEnd). record { reply = Got d.refusal d.value; registers = r }) x.is) i.seen_now;
        registers_now = i.registers_now;
      }
  events_held {header} {last} {b} {e} {r} {r'} (events.lock {es = es} {seen = seen} {l = c} {d = d} x f) s l g k m n =
      let a = Locked d.refusal d.header in
      let y = stepped (Lock c) a (lock {d = d} x none) s g k m in
      let i = events_held f (step S w h (Lock c) s).0 l y.good_now y.header_now y.buffers_now n in
      record {
        replies = a ∷ i.replies;
        ran = lock {rs = i.replies} x i.ran;
        seen_now = ap₂ {C = List Seen} ◌∷◌ (ap (λ (t : Answer). record { reply = Called t; registers = r }) y.answer_now) i.seen_now;
        registers_now = i.registers_now;
      }

-- ---- from the opening on

kept_start : (n : ℕ) → Kept (start_of n) unwritten
kept_start n = record { sixteen = refl; as_many = refl; same = λ k i j. set_keeps unwritten 1 (stale_bit n) k (λ q. omega arith) }

right_start : (n : ℕ) → Right n (start_of n)
right_start n = record { sixteen = refl; status = omega arith; line = refl }

module _ (S : Screen) (L : Lawful S) {w h stale : ℕ} {c : Clarity} {b e : Buffers} {es : List Event} {seen : List Seen} {last : Header} {r : List ℕ}
    (t : EventTrace S w h c b stale es seen last e r) where
  -- the opening alone
  begun : Trace S w h c b stale [] [] t.header (record { picture = b.picture; output = t.output; marks = t.marks })
  begun = record { header = t.header; output = t.output; marks = t.marks; opens = t.opens; ran = none }

  abbrev first : State
  first = started S w h c b

  started_now : t.registers ≡ start_of (count first.stale)
  started_now = t.starts.is ∙ ap start_of ((every3 S L).each begun).same_count

  held_list : Events-held S L w h c b begun t.header (record { picture = b.picture; output = t.output; marks = t.marks }) t.registers unwritten
      first es seen last e r
  held_list =
      events_held S L w h c b begun t.ran first unwritten (good_met S L w h c b begun) (ended S L w h c b begun).0 (ended S L w h c b begun).1
      (subst (λ (r : List ℕ). Kept r unwritten) (sym started_now) (kept_start (count first.stale)))

  calls_list : Trace S w h c b stale (calls_of unwritten es) held_list.replies last e
  calls_list = record { header = t.header; output = t.output; marks = t.marks; opens = t.opens; ran = held_list.ran }

  follows_list : Follows S w h c b stale (calls_of unwritten es) held_list.replies last e
  follows_list = (every3 S L).each calls_list

  device_started_lem : ◌≡◌ {A = Device} (record { session = first; registers = t.registers }) (device_started S w h c b)
  device_started_lem = ap (λ (r : List ℕ). record { session = first; registers = r }) started_now

  abbrev end : Device
  end = ends S w h es (device_started S w h c b)

  registers_end : r ≡ end.registers
  registers_end = held_list.registers_now ∙ ap (λ (f : Device). (ends S w h es f).registers) device_started_lem

  session_end : end.session ≡ after S w h (calls_of unwritten es) first
  session_end = session_list S w h es (device_started S w h c b) unwritten (kept_start (count first.stale))

  -- the stale count, by the marks
  left_end : left S w h e ≡ count end.session.stale
  left_end =
      ap (λ (l : List ℕ). count (map is_stale l)) follows_list.same_state.marks_same
      ∙ ap count (stale_bytes (after S w h (calls_of unwritten es) first).stale)
      ∙ ap (λ (s : State). count s.stale) (sym session_end)

  right_end : Right (left S w h e) r
  right_end =
      subst (λ (r : List ℕ). Right (left S w h e) r) (sym registers_end)
      (subst (λ (n : ℕ). Right n end.registers) (sym left_end)
      (right_list S w h es (device_started S w h c b) (right_start (count first.stale))))

  kept_end : Kept r (written unwritten es)
  kept_end =
      subst (λ (r : List ℕ). Kept r (written unwritten es)) (sym registers_end)
      (kept_list S w h es (device_started S w h c b) unwritten (kept_start (count first.stale)))

  end_sets : (byte end.registers 0 ≡ last_command 0 es) × (byte end.registers 14 ≡ last_refusal 0 (answers S w h (calls_of unwritten es) first))
  end_sets = list_sets S w h es (device_started S w h c b) unwritten (kept_start (count first.stale))

  refusal_end : byte r 14 ≡ last_refusal 0 held_list.replies
  refusal_end = ap (λ (l : List ℕ). byte l 14) registers_end ∙ end_sets.1 ∙ ap (last_refusal 0) (sym follows_list.same_answers)

  count_end : last_count stale held_list.replies ≡ left S w h e
  count_end =
      ap₂ last_count follows_list.same_count follows_list.same_answers ∙ count_list S w h (calls_of unwritten es) first
      ∙ sym (left_end ∙ ap (λ (s : State). count s.stale) session_end)

  events_follow : EventsFollow S w h c b stale es seen last e r
  events_follow = record {
    answers = held_list.replies;
    calls = calls_list;
    follows = follows_list;
    same_seen = held_list.seen_now ∙ ap (sees S w h es) device_started_lem;
    same_registers = registers_end;
    same_session = session_end;
    command_right = ap (λ (l : List ℕ). byte l 0) registers_end ∙ end_sets.0;
    status_right = right_end.status ∙ ap₂ (λ (n f : ℕ). stale_bit n + 2 * cond (eqb f 0) 0 1) (sym count_end) refusal_end;
    count_right = count_end;
    flags_right = ap (λ (l : List ℕ). byte l 2) registers_end ∙ flags_list S w h es (device_started S w h c b) unwritten (kept_start (count first.stale));
    bytes_kept = kept_end.same;
    refusal_right = refusal_end;
    line_right = right_end.line;
  }

-- ---- at every point

-- a list of events cut in two_bytes, from where it starts
record Cut (S : Screen) (header : Header) (b : Buffers) (r : List ℕ) (before after : List Event) (seen : List Seen) (last : Header) (e : Buffers)
    (r' : List ℕ) : Type 0 where
  mid : Header
  buffers : Buffers
  registers : List ℕ
  seen_before : List Seen
  seen_after : List Seen
  seen_is : seen ≡ seen_before ++ seen_after
  first : RanEvents S header b r before seen_before mid buffers registers
  second : RanEvents S mid buffers registers after seen_after last e r'

cut : {S : Screen} {header last : Header} {b e : Buffers} {r r' : List ℕ} {seen : List Seen} (before after : List Event)
    → RanEvents S header b r (before ++ after) seen last e r' → Cut S header b r before after seen last e r'
cut {header = header} {b = b} {r = r} {seen = seen} [] after f = record {
  mid = header;
  buffers = b;
  registers = r;
  seen_before = [];
  seen_after = seen;
  seen_is = refl;
  first = events.none;
  second = f;
}
cut {S = S} {header = header} {last = last} {b = b} {e = e} {r = r} {r' = r'} (Write a v ∷ before) after (events.write {seen = seen} {d = d} x f) =
    let i = cut {b = record { picture = d.picture; output = d.output; marks = d.marks }} before after f in
    let s : Seen = record { reply = Written d.refusal; registers = d.registers } in
    record {
      mid = i.mid;
      buffers = i.buffers;
      registers = i.registers;
      seen_before = s ∷ i.seen_before;
      seen_after = i.seen_after;
      seen_is = ap (λ (l : List Seen). s ∷ l) i.seen_is;
      first = events.write x i.first;
      second = i.second;
    }
cut {S = S} {header = header} {last = last} {b = b} {e = e} {r = r} {r' = r'} (Read a ∷ before) after (events.read {seen = seen} {d = d} x f) =
    let i = cut {b = b} before after f in
    let s : Seen = record { reply = Got d.refusal d.value; registers = r } in
    record {
      mid = i.mid;
      buffers = i.buffers;
      registers = i.registers;
      seen_before = s ∷ i.seen_before;
      seen_after = i.seen_after;
      seen_is = ap (λ (l : List Seen). s ∷ l) i.seen_is;
      first = events.read x i.first;
      second = i.second;
    }
cut {S = S} {header = header} {last = last} {b = b} {e = e} {r = r} {r' = r'} (LockCall l ∷ before) after (events.lock {seen = seen} {d = d} x f) =
    let i = cut {header = latest header d} {b = b} before after f in
    let s : Seen = record { reply = Called (Locked d.refusal d.header); registers = r } in
    record {
      mid = i.mid;
      buffers = i.buffers;
      registers = i.registers;
      seen_before = s ∷ i.seen_before;
      seen_after = i.seen_after;
      seen_is = ap (λ (l : List Seen). s ∷ l) i.seen_is;
      first = events.lock x i.first;
      second = i.second;
    }

point : (S : Screen) → Lawful S → {w h stale : ℕ} {c : Clarity} {b e : Buffers} (before after : List Event) {seen : List Seen} {last : Header} {r : List ℕ}
    → EventTrace S w h c b stale (before ++ after) seen last e r → AtCut S w h c b stale before after seen last e r
point S L {w} {h} {stale} {c} {b} before after t =
    let i = cut before after t.ran in
    let there : EventTrace S w h c b stale before i.seen_before i.mid i.buffers i.registers = record {
      header = t.header;
      output = t.output;
      marks = t.marks;
      registers = t.registers;
      opens = t.opens;
      starts = t.starts;
      ran = i.first;
    } in
    record {
      header = i.mid;
      buffers = i.buffers;
      registers = i.registers;
      seen_before = i.seen_before;
      seen_after = i.seen_after;
      seen_is = i.seen_is;
      left_there = there;
      follows_there = events_follow S L there;
      taken_up = i.second;
    }

pub every : (S : Screen) → Lawful S → AsCalls S
every S L = record {
  each = λ {w} {h} {stale} {c} {b} {e} {es} {seen} {last} {r} t. events_follow S L t;
  every_point = λ {w} {h} {stale} {c} {b} {e} before after {seen} {last} {r} t. point S L before after t;
  two = λ {w} {h} {stale} {stale'} {c} {c'} {b} {b'} {e} {e'} {es} {es'} {seen} {seen'} {last} {last'} {r} {r'} q t t'.
      (every3 S L).two q (events_follow S L t).calls (events_follow S L t').calls;
}
