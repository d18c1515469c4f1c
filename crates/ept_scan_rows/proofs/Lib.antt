mod NextRoot
