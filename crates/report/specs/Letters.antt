-- The letters of the report's words and of the arcs' names, the blank, the line end and the digits, in ASCII.
use Rattle.std.specs.Prelude.{ℕ, ◌+◌}

abbrev pub a : ℕ
a = 0x61

abbrev pub c : ℕ
c = 0x63

abbrev pub d : ℕ
d = 0x64

abbrev pub e : ℕ
e = 0x65

abbrev pub f : ℕ
f = 0x66

abbrev pub g : ℕ
g = 0x67

abbrev pub i : ℕ
i = 0x69

abbrev pub l : ℕ
l = 0x6C

abbrev pub m : ℕ
m = 0x6D

abbrev pub n : ℕ
n = 0x6E

abbrev pub o : ℕ
o = 0x6F

abbrev pub p : ℕ
p = 0x70

abbrev pub r : ℕ
r = 0x72

abbrev pub s : ℕ
s = 0x73

abbrev pub t : ℕ
t = 0x74

abbrev pub u : ℕ
u = 0x75

abbrev pub v : ℕ
v = 0x76

abbrev pub y : ℕ
y = 0x79

abbrev pub I : ℕ
I = 0x49

abbrev pub D : ℕ
D = 0x44

abbrev pub F : ℕ
F = 0x46

abbrev pub B : ℕ
B = 0x42

abbrev pub blank : ℕ
blank = 0x20

abbrev pub line_end : ℕ
line_end = 0x0A

-- the digits follow each other
abbrev pub digit : ℕ → ℕ
digit x = 0x30 + x
