mod KindLaws
